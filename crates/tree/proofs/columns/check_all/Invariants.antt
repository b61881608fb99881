-- `columns::check_all` meets its contract: the elements before i pass, so the checks are those from i on. Assumes nothing.
use Rattle.std.proofs.Common.{◌≡◌, ◌-◌}
use Rattle.paper.specs.Outcome.{checks, passed, rows, scan}
use Rattle.tree.proofs.columns.check_all.Given as goal

abbrev pub invariant-loop-i : goal.invariant-loop-i
invariant-loop-i g l =
    let entry = g.C.Columns.entry l.columns in
    let count = g.C.Columns.count l.columns in
    let fault = g.C.Row.Element.shape.fault in
    checks fault (rows entry 0 count) ≡ scan fault l.i (rows entry l.i (count - l.i)) passed
