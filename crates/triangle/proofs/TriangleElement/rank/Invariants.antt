-- `Triangle::rank` meets its contract: each way out is one case of the call. Assumes nothing.
use Rattle.tree.specs.Words.{position_at}
use Rattle.triangle.specs.Elements.{triangle}
use Rattle.triangle.proofs.Units.{unit}
use Rattle.triangle.proofs.Loops.{Climbed}
use Rattle.triangle.proofs.TriangleElement.rank.Given as goal

abbrev pub invariant-loop-i : goal.invariant-loop-i
invariant-loop-i l = Climbed (position_at triangle l.level (unit 21 l.level l.initial.x l.initial.y l.initial.kind)) l.level l.sum l.i l.x l.y l.kind
