-- `all_sound` meets its contract: while it holds, no mark before i has a fault. Assumes nothing.
use Rattle.std.proofs.Common.{◌≡◌, true}
use Rattle.marks.specs.Inner.{Faultless}
use Rattle.marks.proofs.all_sound.Given as goal

abbrev pub invariant-loop-i : goal.invariant-loop-i
invariant-loop-i l = l.sound ≡ true → Faultless l.highest l.levels l.marks l.i
