-- `none_above_two` meets its contract: the marks before i are at most 2. Assumes nothing.
use Rattle.std.proofs.Common.{length, get_or}
use borrow.Author.Tests.{le-ltb}
use Rattle.marks.specs.Marks.{mark_fault}
use Rattle.marks.proofs.Sound.{sound_next}
use Rattle.marks.proofs.none_above_two.Goals as goal

pub loop-i-preserved : goal.loop-i-preserved
loop-i-preserved c =
    let ms = c.args.marks.now in
    sound_next (mark_fault ms) (length ms) c.loop-i.i c.loop-i-test.true (simp (le-ltb 2 (get_or ms c.loop-i.i 0) c.if-mark-gt2.false)) c.loop-i.invariant
