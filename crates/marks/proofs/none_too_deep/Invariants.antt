-- `none_too_deep` meets its contract: no leaf before i is refined at the highest level. Assumes nothing.
use Rattle.std.proofs.Common.{length}
use Rattle.marks.specs.Marks.{depth_fault}
use Rattle.marks.proofs.Sound.{SoundTo}
use Rattle.marks.proofs.none_too_deep.Given as goal

abbrev pub invariant-loop-i : goal.invariant-loop-i
invariant-loop-i l = SoundTo (depth_fault l.highest l.levels l.marks) (length l.marks) l.i
