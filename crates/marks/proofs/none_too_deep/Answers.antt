-- `none_too_deep` meets its contract: no leaf before i is refined at the highest level. Assumes nothing.
use Rattle.std.proofs.Common.{length, sym}
use Rattle.marks.specs.Marks.{depth_fault}
use Rattle.marks.proofs.Sound.{sound_next}
use Rattle.marks.proofs.none_too_deep.Goals as goal

pub loop-i-preserved : goal.loop-i-preserved
loop-i-preserved c =
    let a = c.args in
    sound_next (depth_fault a.highest a.levels.now a.marks.now) (length a.marks.now) c.loop-i.i c.loop-i-test.true (simp (sym c.if-refines_deep.ensures)) c.loop-i.invariant
