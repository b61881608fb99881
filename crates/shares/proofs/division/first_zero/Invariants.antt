-- `first_zero` meets its contract: the weights before i are no fault, so the checks are those of the weights from i on. Assumes nothing.
use mathlib.Core.Path.{◌≡◌}
use lib.ListN.{drop}
use Rattle.paper.specs.Outcome.{passed, checks, scan}
use Rattle.shares.specs.Calls.{weight_fault}
use Rattle.shares.proofs.division.first_zero.Given as goal

abbrev pub invariant-loop-i : goal.invariant-loop-i
invariant-loop-i l = checks weight_fault l.weights ≡ scan weight_fault l.i (drop l.i l.weights) passed
