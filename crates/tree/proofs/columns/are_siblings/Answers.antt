-- `columns::are_siblings` meets its contract. Assumes nothing.
use Rattle.std.proofs.Common.{◌≡◌, ℕ, ◌<◌, ◌≤◌, sym, ap, ap₂, ◌∙◌, arith}
use borrow.Author.Tests.{not-false, not-true}
use native.Mathlib.Nat.{sub-zero}
use Rattle.paper.specs.Outcome.{rows}
use Rattle.tree.specs.Words.{are_children}
use Rattle.tree.proofs.Sibling.{family_count, family_flat, family_start, sibling_step, sibling_differs, sibling_done}
use Rattle.tree.proofs.columns.are_siblings.Goals as goal

pub returns-then-len-CHILDREN : goal.returns-then-len-CHILDREN
returns-then-len-CHILDREN g c =
    let m = g.met.C.Row.Element in
    sym (family_count g.C.Row.Element.shape m.lawful (g.C.Columns.entry c.args.columns) (g.C.Columns.count c.args.columns)
    (λ all. c.if-len-CHILDREN.true (c.len.ensures ∙ all ∙ sym (c.CHILDREN.ensures ∙ m.states.children_are))))

pub returns-then-level-eq0 : goal.returns-then-level-eq0
returns-then-level-eq0 g c =
    let m = g.met.C.Row.Element in
    let S = g.C.Row.Element.shape in
    let some : 0 < g.C.Columns.count c.args.columns = omega (arith, m.states.children_are, m.lawful.several) in
    sym (family_flat S m.lawful (g.C.Columns.entry c.args.columns) (g.C.Columns.count c.args.columns) some
    (sym (ap S.level c.row-first.ensures) ∙ sym c.level.ensures ∙ c.if-level-eq0.true))

pub loop-i-init : goal.loop-i-init
loop-i-init g c =
    let m = g.met.C.Row.Element in
    let S = g.C.Row.Element.shape in
    let entry = g.C.Columns.entry c.args.columns in
    let count = g.C.Columns.count c.args.columns in
    let whole : count ≡ S.children = omega (arith, m.states.children_are) in
    let some : 0 < count = omega (arith, m.lawful.several) in
    let above = c.up-parent.ensures ∙ ap S.parent c.row-first.ensures in
    family_start S m.lawful entry count some (λ flat. c.if-level-eq0.false (c.level.ensures ∙ ap S.level c.row-first.ensures ∙ flat))
    ∙ ap₂ (λ (f : g.row.C-Row.Denot) (k : ℕ). are_children S f 0 (rows entry 0 k)) (sym above) (whole ∙ sym (sub-zero S.children))

pub returns-then-ne : goal.returns-then-ne
returns-then-ne g c =
    let m = g.met.C.Row.Element in
    let S = g.C.Row.Element.shape in
    let entry = g.C.Columns.entry c.args.columns in
    let inside : c.loop-i.i < S.children = omega (arith, m.states.children_are) in
    let alike = rw (c.down.ensures, c.row.ensures, m.same) at (not-true (g.C.Row.PartialEq.eq c.down.result c.row.result) (sym c.if-ne.ensures)) in
    sym (c.loop-i.invariant ∙ sibling_differs S m.lawful entry c.up-parent.result S.children c.loop-i.i inside alike)

pub loop-i-preserved : goal.loop-i-preserved
loop-i-preserved g c =
    let m = g.met.C.Row.Element in
    let S = g.C.Row.Element.shape in
    let entry = g.C.Columns.entry c.args.columns in
    let inside : c.loop-i.i < S.children = omega (arith, m.states.children_are) in
    let alike = rw (c.down.ensures, c.row.ensures, m.same) at (not-false (g.C.Row.PartialEq.eq c.down.result c.row.result) (sym c.if-ne.ensures)) in
    c.loop-i.invariant ∙ sibling_step S m.lawful entry c.up-parent.result S.children c.loop-i.i inside alike

pub returns : goal.returns
returns g c =
    let m = g.met.C.Row.Element in
    let S = g.C.Row.Element.shape in
    let past : S.children ≤ c.loop-i.i = omega (arith, m.states.children_are) in
    let end : c.loop-i.i ≡ S.children = omega (arith, m.states.children_are) in
    sym (c.loop-i.invariant ∙ sibling_done S m.lawful (g.C.Columns.entry c.args.columns) c.up-parent.result S.children c.loop-i.i past end)
