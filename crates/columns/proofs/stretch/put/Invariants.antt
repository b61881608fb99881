-- `put` meets its contract: each turn writes one entry more. Assumes nothing.
use Rattle.std.proofs.Common.{◌≡◌}
use Rattle.paper.specs.Outcome.{rows}
use Rattle.paper.specs.Memory.{written}
use Rattle.columns.proofs.stretch.put.Given as goal

abbrev pub invariant-loop-entry : goal.invariant-loop-entry
invariant-loop-entry g l = l.column ≡ written (rows (λ t. l.value) 0 l.entry-index) l.initial.column
