-- `count_on` meets its contract: each turn writes one entry more. Assumes nothing.
use Rattle.std.proofs.Common.{◌≡◌, ◌+◌}
use Rattle.paper.specs.Outcome.{rows}
use Rattle.paper.specs.Memory.{written}
use Rattle.columns.proofs.stretch.count_on.Given as goal

abbrev pub invariant-loop-t : goal.invariant-loop-t
invariant-loop-t l = l.positions ≡ written (rows (λ t. l.first + t) 0 l.t) l.initial.positions
