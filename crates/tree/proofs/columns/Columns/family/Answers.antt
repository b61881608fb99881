-- `Columns::family` meets its contract. Assumes nothing.
use Rattle.std.proofs.Common.{sym, ap, ◌∙◌}
use Rattle.std.proofs.lemmas.Result.{err_from_is_err_and}
use Rattle.paper.specs.Outcome.{accepted}
use Rattle.paper.specs.Refusals.{number_of, place_of}
use Rattle.tree.proofs.Call.{family_accepted, family_refused}
use Rattle.tree.proofs.columns.Columns.family.Goals as goal

pub returns-in_err-check_all : goal.returns-in_err-check_all
returns-in_err-check_all g c =
    let e = c.in_err-check_all.field-0.0 in
    let p = err_from_is_err_and c.from_residual.result c.from_residual.ensures.1 in
    rw (p.1, p.2) (sym (family_refused g.Self.Row.Element.shape _ _ (number_of e) (place_of e) (sym c.if-not-are_equal.ensures) (sym c.in_err-check_all.ensures)))

pub returns : goal.returns
returns g c =
    ap accepted c.are_siblings.ensures
    ∙ sym (family_accepted g.Self.Row.Element.shape _ _ (sym c.if-not-are_equal.ensures) (sym c.in_ok-check_all.ensures))
