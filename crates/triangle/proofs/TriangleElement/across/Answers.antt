-- `Triangle::across` meets its contract: the moved coordinates, or refused where one leaves the edge or the root. Assumes nothing.
use mathlib.Core.Path.{◌≡◌, ap, ap₂, ◌∙◌, sym}
use native.Mathlib.Nat.{mod-eq_of_lt}
use Rattle.tree.proofs.Move.{moved_stays}
use Rattle.rows.specs.Rows.{face_row}
use Rattle.triangle.specs.Elements.{triangle_to, across_by}
use Rattle.triangle.specs.Lawful.{known}
use Rattle.triangle.proofs.Across.{within}
use Rattle.triangle.proofs.TriangleElement.across.Goals as goal

pub returns : goal.returns
unfolding triangle_to
returns c =
    let a = c.args in
    let h = c.side-h.result in
    let k = known 21 a.self c.requires.0 in
    let s = c.face_row-s.result in
    let row : s ≡ face_row a.self.kind a.face = c.face_row-s.ensures ∙ ap₂ face_row (mod-eq_of_lt k.typed) (mod-eq_of_lt c.requires.1) in
    within a.self s h c.side-h.ensures _ _ (moved_stays h s.x a.self.x _ c.in-Some.ensures) (moved_stays h s.y a.self.y _ c.in-Some-moved.ensures) (sym c.outside.ensures ∙ c.if-outside.false)
    ∙ ap (across_by 21 a.self) row
