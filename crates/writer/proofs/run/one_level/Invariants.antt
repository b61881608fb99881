-- `one_level` meets its contract: while it is true, the levels so far are the one given. Assumes nothing.
use Rattle.std.proofs.Common.{◌≡◌, true, ℕ, ◌<◌, get_or}
use Rattle.writer.proofs.run.one_level.Given as goal

abbrev pub invariant-loop-l : goal.invariant-loop-l
invariant-loop-l l = l.same ≡ true → (t : ℕ) → t < l.l-index → get_or l.block t 0 ≡ l.level
