-- `any_zero` meets its contract: as long as no weight was 0, the checks are those of the weights from i on. Assumes nothing.
use mathlib.Core.Path.{◌≡◌}
use mathlib.Core.Bool.{false}
use lib.ListN.{drop}
use Rattle.paper.specs.Outcome.{passed, checks, scan}
use Rattle.shares.specs.Calls.{weight_fault}
use Rattle.shares.proofs.division.any_zero.Given as goal

abbrev pub invariant-loop-weight : goal.invariant-loop-weight
invariant-loop-weight l = l.any ≡ false → checks weight_fault l.weights ≡ scan weight_fault l.weight-index (drop l.weight-index l.weights) passed
