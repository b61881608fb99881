-- `columns::are_siblings` meets its contract: the elements before i are the parent's children, so it is left to compare those from i on.
-- Assumes nothing.
use Rattle.std.proofs.Common.{◌≡◌, ◌-◌}
use Rattle.paper.specs.Outcome.{rows}
use Rattle.tree.specs.Words.{family, are_children}
use Rattle.tree.proofs.columns.are_siblings.Given as goal

abbrev pub invariant-loop-i : goal.invariant-loop-i
invariant-loop-i g l =
    let S = g.C.Row.Element.shape in
    let entry = g.C.Columns.entry l.columns in
    family S (rows entry 0 (g.C.Columns.count l.columns)) ≡ are_children S l.parent l.i (rows entry l.i (S.children - l.i))
