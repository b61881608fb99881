-- `Corner::within` meets its contract: the three numbers in turn. Assumes nothing.
use Rattle.std.proofs.Common.{arith}
use Rattle.std.proofs.lemmas.Grind.{common_steps}
use Rattle.corners.proofs.Corner.within.Goals as goal
use Rattle.corners.proofs.Corner.within.Goals.{then-within, else-within}

pub returns-then-within-2 : goal.returns-then-within-2
returns-then-within-2 c =
    elim c.if-within.branch [ then-within w ↦ grind (arith, common_steps) | else-within w ↦ grind (arith, common_steps) ]
