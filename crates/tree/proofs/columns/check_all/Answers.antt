-- `columns::check_all` meets its contract. Assumes nothing.
use Rattle.std.proofs.Common.{◌<◌, sym, ◌∙◌, arith}
use Rattle.std.proofs.lemmas.Result.{err_from_is_err_and}
use Rattle.paper.specs.Outcome.{passed}
use Rattle.paper.specs.Refusals.{number_of, place_of}
use Rattle.paper.proofs.Scan.{scan_step, scan_stops, faultless}
use Rattle.tree.proofs.columns.check_all.Goals as goal

pub returns-in_err-check : goal.returns-in_err-check
returns-in_err-check g c =
    let S = g.C.Row.Element.shape in
    let inside : c.loop-i.i < g.C.Columns.count c.args.columns = omega arith in
    let e = c.in_err-check.field-0.0 in
    let found = rw c.row.ensures at c.in_err-check.ensures in
    let p = err_from_is_err_and c.from_residual.result c.from_residual.ensures.1 in
    rw (p.1, p.2) (sym (c.loop-i.invariant
    ∙ scan_stops S.fault (g.C.Columns.entry c.args.columns) (g.C.Columns.count c.args.columns) c.loop-i.i passed inside (number_of e) (place_of e) found))

pub loop-i-preserved : goal.loop-i-preserved
loop-i-preserved g c =
    let S = g.C.Row.Element.shape in
    let inside : c.loop-i.i < g.C.Columns.count c.args.columns = omega arith in
    let none = rw c.row.ensures at (faultless (S.fault c.row.result) c.loop-i.i c.in_ok-check.ensures) in
    c.loop-i.invariant ∙ scan_step S.fault (g.C.Columns.entry c.args.columns) (g.C.Columns.count c.args.columns) c.loop-i.i passed inside none
