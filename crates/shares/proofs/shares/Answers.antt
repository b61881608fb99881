-- `shares` meets its contract: each way out is one case of the call. Assumes nothing.
use Rattle.std.proofs.Common.{sym, ◌∙◌}
use Rattle.std.proofs.lemmas.Result.{err_from_is_err_and}
use Rattle.shares.proofs.Sharing.{refused_list, refused_weight, refused_room, all_shared}
use Rattle.shares.proofs.shares.Goals as goal

pub returns-in_err-check_list : goal.returns-in_err-check_list
returns-in_err-check_list c =
    let a = c.args in
    let p = err_from_is_err_and c.from_residual.result c.from_residual.ensures.1 in
    rw (p.1, p.2) (refused_list a.k a.p a.list.now a.weights.now a.boundaries.now (sym c.if-out_of_range-2.ensures) (sym c.len.ensures ∙ c.if-len-weights.false) _ c.in_err-check_list.ensures)

pub returns-in_err-check_weights : goal.returns-in_err-check_weights
returns-in_err-check_weights c =
    let a = c.args in
    let p = err_from_is_err_and c.from_residual-in_err-check_weights.result c.from_residual-in_err-check_weights.ensures.1 in
    rw (p.1, p.2) (refused_weight a.k a.p a.list.now a.weights.now a.boundaries.now (sym c.if-out_of_range-2.ensures) (sym c.len.ensures ∙ c.if-len-weights.false) c.in_ok-check_list.ensures _ c.in_err-check_weights.ensures)

pub returns-then-boundaries-p : goal.returns-then-boundaries-p
returns-then-boundaries-p c =
    let a = c.args in
    refused_room a.k a.p a.list.now a.weights.now a.boundaries.now (sym c.if-out_of_range-2.ensures) (sym c.len.ensures ∙ c.if-len-weights.false) c.in_ok-check_list.ensures c.in_ok-check_weights.ensures c.if-boundaries-p.true

pub returns : goal.returns
returns c =
    let a = c.args in
    all_shared a.k a.p a.list.now a.weights.now a.boundaries.now (sym c.if-out_of_range-2.ensures) (sym c.len.ensures ∙ c.if-len-weights.false) c.in_ok-check_list.ensures c.in_ok-check_weights.ensures c.if-boundaries-p.false _ c.divide.ensures
