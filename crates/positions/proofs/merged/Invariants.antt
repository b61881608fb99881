-- `merged` meets its contract: none of the positions before passes the bits. Assumes nothing.
use Rattle.std.proofs.Common.{ℕ, ◌≤◌, ◌<◌, get_or}
use Rattle.positions.proofs.merged.Given as goal

abbrev pub invariant-loop-position : goal.invariant-loop-position
invariant-loop-position l = (j : ℕ) → j < l.position-index → get_or l.positions j 0 ≤ l.bits
