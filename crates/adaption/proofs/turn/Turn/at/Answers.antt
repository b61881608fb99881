-- `at` meets its contract: a mark is a turn, but for a 2 where no family begins. Assumes nothing.
use Rattle.std.proofs.Common.{◌^◌, sym, ◌∙◌}
use lib.Pow.{pow_pos}
use Rattle.adaption.proofs.Beginning.{turn_kept, none_unmarked}
use Rattle.adaption.proofs.turn.Turn.at.Goals as goal
use Rattle.adaption.proofs.turn.Turn.at.Goals.{else-marks-i-eq2-via-then-marks-i-eq2+else-begins, else-marks-i-eq2-via-else-marks-i-eq2}

pub returns-else-marks-i-eq1 : goal.returns-else-marks-i-eq1
returns-else-marks-i-eq1 c =
    let a = c.args in
    turn_kept (2 ^ a.bits) (pow_pos a.bits) a.list.now a.marks.now a.i c.requires.i_in_bounds c.if-marks-i-eq1.false (elim c.else-marks-i-eq2.branch [
      | else-marks-i-eq2-via-then-marks-i-eq2+else-begins w ↦ sym w.begins.ensures ∙ w.if-begins.false
      | else-marks-i-eq2-via-else-marks-i-eq2 w ↦ none_unmarked (2 ^ a.bits) (pow_pos a.bits) a.list.now a.marks.now a.i c.requires.i_in_bounds w.if-marks-i-eq2.false
    ])
