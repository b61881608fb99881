-- `step` meets its contract: the row of the child and that of the corner, added. Assumes nothing.
use mathlib.Core.Path.{◌≡◌, ap, ap₂, ◌∙◌, subst}
use Prim.Native.Nat.{◌+◌, ◌*◌, ◌/◌, ◌%◌}
use native.Mathlib.Nat.{mod-lt, mod-eq_of_lt}
use lib.Dec.{lit<}
use Rattle.rows.specs.declared.Step.{Step}
use Rattle.rows.specs.Rows.{child_row}
use Rattle.corners.specs.Inner.{CornerRow}
use Rattle.corners.proofs.Children.{digit_is}
use Rattle.corners.proofs.child.step.Goals as goal

pub returns : goal.returns
returns c =
    let a = c.args in
    let s = c.sides-s in
    let row : c.child_row-row.result ≡ child_row a.kind a.number =
    c.child_row-row.ensures ∙ ap₂ child_row (mod-eq_of_lt c.requires.0) (mod-eq_of_lt c.requires.1) in
    c.from.ensures ∙ ap (λ (q : Step). 4 * (q.x + s.result / 2) + (q.y + s.result % 2)) row
    ∙ digit_is (a.corner % 3) a.kind a.number s.result (mod-lt a.corner (lit< tt)) c.requires.0 c.requires.1
    (subst (λ (q : Step). CornerRow q.kind (a.corner % 3) s.result) row s.ensures)
