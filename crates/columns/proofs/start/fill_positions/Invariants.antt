-- `fill_positions` meets its contract: each turn writes one entry more. Assumes nothing.
use Rattle.std.proofs.Common.{◌≡◌, ◌%◌, ◌^◌}
use Rattle.paper.specs.Outcome.{rows}
use Rattle.paper.specs.Memory.{written}
use Rattle.columns.proofs.start.fill_positions.Given as goal

abbrev pub invariant-loop-leaf : goal.invariant-loop-leaf
invariant-loop-leaf l = l.positions ≡ written (rows (λ i. i % 2 ^ l.bits) 0 l.leaf) l.initial.positions
