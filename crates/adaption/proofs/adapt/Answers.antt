-- `adapt` meets its contract: each way out is one case of the call. Assumes nothing.
use Rattle.std.proofs.Common.{ap, sym, ◌∙◌}
use Rattle.std.proofs.lemmas.Result.{err_from_is_err_and}
use Rattle.paper.specs.declared.Refusal.TheVariants.{TooManyLeaves, NoRoom}
use Rattle.leaves.specs.Leaves.{Columns}
use Rattle.marks.specs.Marks.{check_marks}
use Rattle.columns.specs.Lent.{held}
use Rattle.adaption.proofs.Adapting.{cleared, not_adapted, leaves_refused, marks_refused, list_ready, too_many_15, no_room_14, is_adapted}
use Rattle.adaption.proofs.adapt.Goals as goal

pub returns-in_err-check_list-clause-adapted : goal.returns-in_err-check_list-clause-adapted
returns-in_err-check_list-clause-adapted c =
    let a = c.args in
    let p = err_from_is_err_and c.from_residual.result c.from_residual.ensures.1 in
    rw (p.1, p.2) (not_adapted a.k a.list.now a.marks.now (held a.lent.now) _ (leaves_refused a.k a.list.now a.marks.now (held a.lent.now) (sym c.len.ensures ∙ c.if-len-marks.false) (sym c.if-not-is_even.ensures) _ _ (sym c.in_err-check_list.ensures)))

pub returns-in_err-check-clause-adapted : goal.returns-in_err-check-clause-adapted
returns-in_err-check-clause-adapted c =
    let a = c.args in
    let m = held a.lent.now in
    let long = sym c.len.ensures ∙ c.if-len-marks.false in
    let equal = sym c.if-not-is_even.ensures in
    let sound = sym c.in_ok-check_list.ensures in
    let wrong = sym (c.in_err-check.ensures ∙ ap (λ (cs : Columns). check_marks 21 cs.levels a.marks.now) c.list.view_is) in
    let p = err_from_is_err_and c.from_residual-in_err-check.result c.from_residual-in_err-check.ensures.1 in
    rw (p.1, p.2) (not_adapted a.k a.list.now a.marks.now m _ (marks_refused a.k a.list.now a.marks.now m long equal sound _ _ wrong))

pub count-size-requires-clause-ready : goal.count-size-requires-clause-ready
count-size-requires-clause-ready c =
    let a = c.args in
    let m = held a.lent.now in
    let s = cleared a.k a.list.now a.marks.now m c.len.ensures c.if-len-marks.false c.if-not-is_even.ensures c.in_ok-check_list.ensures c.list.view_is c.in_ok-check.ensures in
    list_ready a.k a.list.now a.marks.now m s

pub returns-then-size-gt-LIMIT-clause-adapted : goal.returns-then-size-gt-LIMIT-clause-adapted
returns-then-size-gt-LIMIT-clause-adapted c =
    let a = c.args in
    let m = held a.lent.now in
    let s = cleared a.k a.list.now a.marks.now m c.len.ensures c.if-len-marks.false c.if-not-is_even.ensures c.in_ok-check_list.ensures c.list.view_is c.in_ok-check.ensures in
    not_adapted a.k a.list.now a.marks.now m (TooManyLeaves 0)
    (too_many_15 a.k a.list.now a.marks.now m s c.count-size.result c.count-size.ensures c.if-size-gt-LIMIT.true)

pub returns-then-lent-size-clause-adapted : goal.returns-then-lent-size-clause-adapted
returns-then-lent-size-clause-adapted c =
    let a = c.args in
    let m = held a.lent.now in
    let s = cleared a.k a.list.now a.marks.now m c.len.ensures c.if-len-marks.false c.if-not-is_even.ensures c.in_ok-check_list.ensures c.list.view_is c.in_ok-check.ensures in
    not_adapted a.k a.list.now a.marks.now m (NoRoom c.count-size.result)
    (no_room_14 a.k a.list.now a.marks.now m s c.count-size.result c.count-size.ensures c.if-size-gt-LIMIT.false c.if-lent-size.true)

pub write-requires-clause-ready : goal.write-requires-clause-ready
write-requires-clause-ready c =
    let a = c.args in
    let m = held a.lent.now in
    let s = cleared a.k a.list.now a.marks.now m c.len.ensures c.if-len-marks.false c.if-not-is_even.ensures c.in_ok-check_list.ensures c.list.view_is c.in_ok-check.ensures in
    list_ready a.k a.list.now a.marks.now m s

pub returns-clause-adapted : goal.returns-clause-adapted
returns-clause-adapted c =
    let a = c.args in
    let m = held a.lent.now in
    let s = cleared a.k a.list.now a.marks.now m c.len.ensures c.if-len-marks.false c.if-not-is_even.ensures c.in_ok-check_list.ensures c.list.view_is c.in_ok-check.ensures in
    is_adapted a.k a.list.now a.marks.now m s c.count-size.result c.count-size.ensures c.if-size-gt-LIMIT.false c.if-lent-size.false _ c.write.ensures.written
