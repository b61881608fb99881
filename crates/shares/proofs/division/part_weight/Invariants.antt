-- `part_weight` meets its contract: each turn adds one weight to the sum of the first. Assumes nothing.
use mathlib.Core.Path.{◌≡◌}
use Prim.Native.Nat.{◌*◌, ◌≤◌}
use lib.ListN.{take}
use Rattle.shares.specs.Shares.{total}
use Rattle.shares.proofs.division.part_weight.Given as goal

abbrev pub invariant-loop-weight : goal.invariant-loop-weight
invariant-loop-weight l = (l.sum ≡ total (take l.weight-index l.weights)) × (l.sum ≤ 65535 * l.weight-index)
