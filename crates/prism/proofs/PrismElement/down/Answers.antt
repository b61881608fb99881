-- `Prism::down` meets its contract: a step to a child, of at most half a side, stays within the edge. Assumes nothing.
use mathlib.Core.Path.{◌≡◌, ap, ap₂, ◌∙◌}
use Prim.Native.Nat.{ℕ, suc, ◌+◌, ◌*◌, ◌/◌, ◌%◌}
use native.Mathlib.Omega.{arith}
use native.Mathlib.Nat.{mod-eq_of_lt}
use native.Mathlib.Numerals.{add-one}
use Rattle.tree.specs.Anchors.{side}
use Rattle.tree.proofs.Anchor.{half_inside}
use Rattle.rows.specs.declared.Step.{Step}
use Rattle.rows.specs.Rows.{child_row}
use Rattle.rows.proofs.Tables.{row_small}
use Rattle.prism.specs.Elements.{prism_to}
use Rattle.prism.specs.Lawful.{prism_path, grids}
use Rattle.prism.proofs.PrismElement.down.Goals as goal

pub overflow_add-result : goal.overflow_add-result
unfolding prism_to
overflow_add-result c =
    let a = c.args in
    let on = grids 21 a.self c.requires.0 in
    let s = c.child_row-s in
    let bits = row_small a.self.kind a.number s.result s.ensures in
    let h = c.side-h in
    let room = half_inside 21 a.self.level a.self.x s.result.x h.result h.ensures c.requires.1.0 on.0.grid_x bits.0 in
    omega arith

pub overflow_add-result-2 : goal.overflow_add-result-2
unfolding prism_to
overflow_add-result-2 c =
    let a = c.args in
    let on = grids 21 a.self c.requires.0 in
    let s = c.child_row-s in
    let bits = row_small a.self.kind a.number s.result s.ensures in
    let h = c.side-h in
    let room = half_inside 21 a.self.level a.self.y s.result.y h.result h.ensures c.requires.1.0 on.0.grid_y bits.1.0 in
    omega arith

pub returns : goal.returns
unfolding prism_to
returns c =
    let a = c.args in
    let on = grids 21 a.self c.requires.0 in
    let s = c.child_row-s in
    let h = c.side-h in
    let sized : h.result ≡ side 21 (suc a.self.level) = h.ensures ∙ ap (side 21) (add-one a.self.level) in
    let row : s.result ≡ child_row a.self.kind (a.number % 4) =
    s.ensures ∙ ap (λ (t : ℕ). child_row t (a.number % 4)) (mod-eq_of_lt on.0.typed) in
    prism_path _ _
    (ap₂ (λ (q : Step) (m : ℕ). a.self.x + q.x * m) row sized)
    (ap₂ (λ (q : Step) (m : ℕ). a.self.y + q.y * m) row sized)
    (ap (λ (m : ℕ). a.self.z + a.number / 4 * m) sized)
    (add-one a.self.level)
    (ap (λ (q : Step). q.kind) row)
