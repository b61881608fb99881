-- `check` meets its contract: none of the marks has a fault, or the two checks in turn. Assumes nothing.
use Rattle.std.proofs.Common.{sym, ◌∙◌}
use Rattle.std.proofs.lemmas.Result.{err_from_is_err_and}
use Rattle.marks.proofs.Checking.{faultless, above_13, then_deep}
use Rattle.marks.proofs.check.Goals as goal

pub returns-then-all_sound : goal.returns-then-all_sound
returns-then-all_sound c =
    let a = c.args in
    sym (faultless a.highest a.levels.now a.marks.now c.if-levels-marks.false (c.all_sound.ensures c.if-all_sound.true))

pub returns-in_err-none_above_two : goal.returns-in_err-none_above_two
returns-in_err-none_above_two c =
    let a = c.args in
    let p = err_from_is_err_and c.from_residual.result c.from_residual.ensures.1 in
    rw (p.1, p.2) (sym (above_13 a.highest a.levels.now a.marks.now c.if-levels-marks.false _ _ (sym c.in_err-none_above_two.ensures)))

pub returns : goal.returns
returns c =
    let a = c.args in
    c.none_too_deep.ensures ∙ sym (then_deep a.highest a.levels.now a.marks.now c.if-levels-marks.false (sym c.in_ok-none_above_two.ensures))
