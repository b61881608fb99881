-- `Triangle::down` meets its contract: each way out is one case of the call. Assumes nothing.
use mathlib.Core.Path.{◌≡◌, ap, ap₂, ◌∙◌}
use Prim.Native.Nat.{suc, ◌*◌, ◌≤◌}
use native.Mathlib.Omega.{arith}
use native.Mathlib.Nat.{mod-eq_of_lt, mul-le-mul_right}
use native.Mathlib.Numerals.{add-one}
use Rattle.tree.specs.Anchors.{side}
use Rattle.tree.proofs.Anchor.{end_inside, side_suc}
use Rattle.triangle.specs.Elements.{triangle_to}
use Rattle.rows.specs.Rows.{child_row}
use Rattle.triangle.specs.Lawful.{known}
use Rattle.rows.proofs.Tables.{child_row_small}
use Rattle.triangle.proofs.TriangleElement.down.Goals as goal

pub overflow_add-result : goal.overflow_add-result
unfolding triangle_to
overflow_add-result c =
    let a = c.args in
    let k = known 21 a.self c.requires.0 in
    let h : c.side-h.result ≡ side 21 (suc a.self.level) = c.side-h.ensures ∙ ap (side 21) (add-one a.self.level) in
    let row : c.child_row-s.result ≡ child_row a.self.kind a.number = c.child_row-s.ensures ∙ ap₂ child_row (mod-eq_of_lt k.typed) (mod-eq_of_lt c.requires.1.1) in
    let small = child_row_small a.self.kind a.number k.typed c.requires.1.1 in
    let part : c.child_row-s.result.x * c.side-h.result ≤ 1 * c.side-h.result = mul-le-mul_right c.side-h.result (rw row (omega (arith, small.0))) in
    omega (arith, end_inside 21 a.self.level a.self.x k.shallow k.grid_x, side_suc 21 a.self.level c.requires.1.0)

pub overflow_add-result-2 : goal.overflow_add-result-2
unfolding triangle_to
overflow_add-result-2 c =
    let a = c.args in
    let k = known 21 a.self c.requires.0 in
    let h : c.side-h.result ≡ side 21 (suc a.self.level) = c.side-h.ensures ∙ ap (side 21) (add-one a.self.level) in
    let row : c.child_row-s.result ≡ child_row a.self.kind a.number = c.child_row-s.ensures ∙ ap₂ child_row (mod-eq_of_lt k.typed) (mod-eq_of_lt c.requires.1.1) in
    let small = child_row_small a.self.kind a.number k.typed c.requires.1.1 in
    let part : c.child_row-s.result.y * c.side-h.result ≤ 1 * c.side-h.result = mul-le-mul_right c.side-h.result (rw row (omega (arith, small.1.0))) in
    omega (arith, end_inside 21 a.self.level a.self.y k.shallow k.grid_y, side_suc 21 a.self.level c.requires.1.0)
