-- `all_near` meets its contract: the answer is that of the leaves before i and of those from i on, after leaf i - 1. Assumes nothing.
use mathlib.Core.Path.{◌≡◌}
use mathlib.Core.Bool.{◌&&◌}
use mathlib.Core.List.{List}
use Prim.Native.Nat.{ℕ}
use lib.ListN.{length}
use Rattle.leaves.specs.Leaves.{columns, leaf_at, leaves}
use Rattle.balance.specs.Balance.{is_balanced}
use Rattle.balance.proofs.Pairs.{balanced_from}
use Rattle.balance.proofs.all_near.Given as goal

abbrev pub invariant-loop-i : goal.invariant-loop-i
invariant-loop-i l =
    (positions : List ℕ)
    → is_balanced (leaves (columns l.roots l.levels positions)) ≡ (l.all && balanced_from (leaf_at (columns l.roots l.levels positions)) (length l.roots) l.i)
