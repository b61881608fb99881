-- `balanced` meets its contract: the list check's refusal is the call's, and of a list that passed it the leaves are compared in turn.
-- Assumes nothing.
use Rattle.std.proofs.Common.{true, length, ap, sym, ◌∙◌, arith}
use Rattle.std.proofs.lemmas.Result.{err_from_is_err_and}
use Rattle.paper.specs.Outcome.{accepted}
use Rattle.leaves.specs.Leaves.{Columns, leaves}
use Rattle.leaves.proofs.Listed.{columns_sound, listed_passed, listed_refused}
use Rattle.balance.specs.Balance.{is_balanced}
use Rattle.balance.proofs.balanced.Goals as goal

pub returns-in_err-check_list : goal.returns-in_err-check_list
returns-in_err-check_list c =
    let a = c.args in
    let p = err_from_is_err_and c.from_residual.result c.from_residual.ensures.1 in
    rw (p.1, p.2) (sym (listed_refused 8 21 a.k true true a.list.now _ _ _ (sym c.in_err-check_list.ensures)))

pub all_near-requires : goal.all_near-requires
all_near-requires c =
    let a = c.args in
    let sound = columns_sound 8 21 a.k true true a.list.now (sym c.in_ok-check_list.ensures) in
    let roots = ap (λ (cs : Columns). length cs.roots) c.list.view_is in
    let levels = ap (λ (cs : Columns). length cs.levels) c.list.view_is in
    (omega (arith, sound.some, roots), omega (arith, sound.levels_long, roots, levels))

pub returns : goal.returns
returns c =
    let a = c.args in
    ap accepted (c.all_near.ensures c.list.inside.positions.now ∙ ap (λ (cs : Columns). is_balanced (leaves cs)) c.list.view_is)
    ∙ sym (listed_passed 8 21 a.k true true a.list.now _ (sym c.in_ok-check_list.ensures))
