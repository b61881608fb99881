-- `Prism::across` meets its contract: the moved coordinates, or refused where one leaves the edge or the root. Assumes nothing.
use mathlib.Core.Path.{◌≡◌, ap, ap₂, ◌∙◌, sym}
use native.Mathlib.Nat.{mod-eq_of_lt}
use Rattle.tree.proofs.Move.{moved_gone, moved_stays}
use Rattle.rows.specs.Rows.{prism_face_row}
use Rattle.prism.specs.Elements.{prism_to}
use Rattle.prism.specs.Lawful.{grids}
use Rattle.prism.proofs.Across.{across_by, neighbour_by, gone_x, gone_y, gone_z, beyond_root, within_root}
use Rattle.prism.proofs.PrismElement.across.Goals as goal

pub returns-in_default : goal.returns-in_default
unfolding prism_to
returns-in_default c =
    let a = c.args in
    let h = c.side-h.result in
    let s = c.prism_face_row-s.result in
    let k = (grids 21 a.self c.requires.0).0 in
    let row : s ≡ prism_face_row a.self.kind a.face = c.prism_face_row-s.ensures ∙ ap₂ prism_face_row (mod-eq_of_lt k.typed) (mod-eq_of_lt c.requires.1) in
    gone_x a.self s h c.side-h.ensures (moved_gone h s.x a.self.x c.in_default.ensures)
    ∙ ap (across_by a.self) row
    ∙ sym (neighbour_by a.self c.requires.0 a.face c.requires.1)

pub returns-in_default-moved : goal.returns-in_default-moved
unfolding prism_to
returns-in_default-moved c =
    let a = c.args in
    let h = c.side-h.result in
    let s = c.prism_face_row-s.result in
    let k = (grids 21 a.self c.requires.0).0 in
    let row : s ≡ prism_face_row a.self.kind a.face = c.prism_face_row-s.ensures ∙ ap₂ prism_face_row (mod-eq_of_lt k.typed) (mod-eq_of_lt c.requires.1) in
    gone_y a.self s h c.side-h.ensures _ (moved_stays h s.x a.self.x _ c.in-Some.ensures) (moved_gone h s.y a.self.y c.in_default-moved.ensures)
    ∙ ap (across_by a.self) row
    ∙ sym (neighbour_by a.self c.requires.0 a.face c.requires.1)

pub returns-in_default-moved-2 : goal.returns-in_default-moved-2
unfolding prism_to
returns-in_default-moved-2 c =
    let a = c.args in
    let h = c.side-h.result in
    let s = c.prism_face_row-s.result in
    let k = (grids 21 a.self c.requires.0).0 in
    let row : s ≡ prism_face_row a.self.kind a.face = c.prism_face_row-s.ensures ∙ ap₂ prism_face_row (mod-eq_of_lt k.typed) (mod-eq_of_lt c.requires.1) in
    gone_z a.self s h c.side-h.ensures _ (moved_stays h s.x a.self.x _ c.in-Some.ensures) _ (moved_stays h s.y a.self.y _ c.in-Some-moved.ensures) (moved_gone h s.z a.self.z c.in_default-moved-2.ensures)
    ∙ ap (across_by a.self) row
    ∙ sym (neighbour_by a.self c.requires.0 a.face c.requires.1)

pub returns-then-outside : goal.returns-then-outside
unfolding prism_to
returns-then-outside c =
    let a = c.args in
    let h = c.side-h.result in
    let s = c.prism_face_row-s.result in
    let k = (grids 21 a.self c.requires.0).0 in
    let row : s ≡ prism_face_row a.self.kind a.face = c.prism_face_row-s.ensures ∙ ap₂ prism_face_row (mod-eq_of_lt k.typed) (mod-eq_of_lt c.requires.1) in
    beyond_root a.self s h c.side-h.ensures _ (moved_stays h s.x a.self.x _ c.in-Some.ensures) _ (moved_stays h s.y a.self.y _ c.in-Some-moved.ensures) _ (moved_stays h s.z a.self.z _ c.in-Some-moved-2.ensures) (sym c.outside.ensures ∙ c.if-outside.true)
    ∙ ap (across_by a.self) row
    ∙ sym (neighbour_by a.self c.requires.0 a.face c.requires.1)

pub returns : goal.returns
unfolding prism_to
returns c =
    let a = c.args in
    let h = c.side-h.result in
    let s = c.prism_face_row-s.result in
    let k = (grids 21 a.self c.requires.0).0 in
    let row : s ≡ prism_face_row a.self.kind a.face = c.prism_face_row-s.ensures ∙ ap₂ prism_face_row (mod-eq_of_lt k.typed) (mod-eq_of_lt c.requires.1) in
    within_root a.self s h c.side-h.ensures _ (moved_stays h s.x a.self.x _ c.in-Some.ensures) _ (moved_stays h s.y a.self.y _ c.in-Some-moved.ensures) _ (moved_stays h s.z a.self.z _ c.in-Some-moved-2.ensures) (sym c.outside.ensures ∙ c.if-outside.false)
    ∙ ap (across_by a.self) row
    ∙ sym (neighbour_by a.self c.requires.0 a.face c.requires.1)
