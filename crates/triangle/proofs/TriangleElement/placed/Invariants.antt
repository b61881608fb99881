-- `triangle::placed` meets its contract: the loop goes down by one digit a turn. Assumes nothing.
use Rattle.triangle.proofs.Loops.{Reached}
use Rattle.triangle.proofs.TriangleElement.placed.Given as goal

abbrev pub invariant-loop-left : goal.invariant-loop-left
invariant-loop-left l = Reached l.level l.position l.left l.x l.y l.kind
