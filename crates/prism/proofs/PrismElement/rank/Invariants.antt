-- `Prism::rank` meets its contract: the loop goes up by one digit a turn. Assumes nothing.
use Rattle.tree.specs.Words.{position_at}
use Rattle.prism.specs.Elements.{prism}
use Rattle.prism.proofs.Loops.{Climbed, unit}
use Rattle.prism.proofs.PrismElement.rank.Given as goal

abbrev pub invariant-loop-i : goal.invariant-loop-i
invariant-loop-i l = Climbed (position_at prism l.level (unit l.level l.initial.x l.initial.y l.initial.z l.initial.kind)) l.level l.sum l.i l.x l.y l.z l.kind
