-- `fill_roots` meets its contract: each turn writes the entries of one root more. Assumes nothing.
use Rattle.std.proofs.Common.{◌≡◌, ◌*◌, ◌/◌, ◌^◌}
use Rattle.paper.specs.Outcome.{rows}
use Rattle.paper.specs.Memory.{written}
use Rattle.columns.proofs.start.fill_roots.Given as goal

abbrev pub invariant-loop-r : goal.invariant-loop-r
invariant-loop-r l = l.roots ≡ written (rows (λ i. i / 2 ^ l.bits) 0 (l.r * 2 ^ l.bits)) l.initial.roots
