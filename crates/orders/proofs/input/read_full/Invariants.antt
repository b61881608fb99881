-- `read_full` ends, since each read that goes on leaves less of the line to fill. Assumes nothing.
use Rattle.std.proofs.Common.{length, ◌-◌, ◌≡◌, ◌≤◌}
use Rattle.orders.proofs.input.read_full.Given as goal

abbrev pub invariant-loop-size : goal.invariant-loop-size
invariant-loop-size g l = (length l.line ≡ length l.initial.line) × (l.size ≤ length l.line)

abbrev pub decreases-loop-size : goal.decreases-loop-size
decreases-loop-size g l = length l.line - l.size
