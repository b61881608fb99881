-- `merged` meets its contract: none of the positions before passes the bits, and the bits grow only. Assumes nothing.
use Rattle.std.proofs.Common.{below_more, le_trans}
use Rattle.std.proofs.lemmas.Nat.{le_or_l, le_or_r}
use Rattle.positions.proofs.merged.Goals as goal

pub loop-position-preserved : goal.loop-position-preserved
loop-position-preserved c =
    below_more _ _ (λ j before. le_trans (c.loop-position.invariant j before) (le_or_l _ _)) (le_or_r _ _)
