-- `none_above_two` meets its contract: the marks before i are at most 2. Assumes nothing.
use Rattle.std.proofs.Common.{length}
use Rattle.marks.specs.Marks.{mark_fault}
use Rattle.marks.proofs.Sound.{SoundTo}
use Rattle.marks.proofs.none_above_two.Given as goal

abbrev pub invariant-loop-i : goal.invariant-loop-i
invariant-loop-i l = SoundTo (mark_fault l.marks) (length l.marks) l.i
