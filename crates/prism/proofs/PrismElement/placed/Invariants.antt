-- `placed` of a prism meets its contract: the loop goes down by one digit a turn. Assumes nothing.
use Rattle.prism.proofs.Loops.{Reached}
use Rattle.prism.proofs.PrismElement.placed.Given as goal

abbrev pub invariant-loop-left : goal.invariant-loop-left
invariant-loop-left l = Reached l.level l.position l.left l.x l.y l.z l.kind
