-- A triangle is two coordinates and a type. One step down and up again is one coordinate's (`tree`'s anchors), twice, with the
-- type as the rows have it; it stays inside the root since it does in sides of its own level. Assumes nothing.
use mathlib.Core.Path.{◌≡◌, refl, ap, ap₂, ◌∙◌, sym, subst, subst⁻¹}
use mathlib.Core.Bool.{true, false, not, ◌||◌, ◌&&◌, and-eq-true_iff}
use Prim.Native.Nat.{ℕ, zero, suc, ◌+◌, ◌-◌, ◌*◌, ◌/◌, ◌%◌, ◌≤◌, ◌<◌}
use native.Mathlib.Nat.{zero-div, mul-le-mul_right, le_of_mul-le-mul_right, lt_of_mul-lt-mul_right, mul-lt-mul_of_pos_right}
use native.Mathlib.Omega.{arith}
use lib.Dec.{ltb, eqb}
use borrow.Author.Tests.{le-ltb, ltb-false, ltb-true, lt-ltb, le-leb, leb-true, eq-eqb, eqb-true, not-false}
use Rattle.paper.proofs.Tests.{no_fault, or_none}
use Rattle.tree.specs.Anchors.{HIGHEST, side, off_grid, rounded, bit_at}
use Rattle.tree.specs.Laws.{Lawful}
use Rattle.tree.specs.Stated.{States, Same}
use Rattle.tree.proofs.Anchor.{side_pos, grid_zero, zero_grid, grid_units, units_child, units_rounded, child_grid, child_rounded, child_bit, parent_grid, parent_split, bit_lt}
use Rattle.rows.specs.declared.Step.{Step}
use Rattle.triangle.specs.declared.Triangle.{Triangle}
use Rattle.rows.specs.Rows.{step, child_row, parent_kind, number_of}
use Rattle.triangle.specs.Elements.{triangle, triangle_to, fault, inside_root, step_to, child, parent}
use Rattle.rows.proofs.Tables.{child_row_small, parent_kind_child, number_of_child_lem, child_row_slot, parent_kind_lt, number_of_lt, child_inside, parent_inside}

pub triangle_path : (e f : Triangle) → e.x ≡ f.x → e.y ≡ f.y → e.level ≡ f.level → e.kind ≡ f.kind → e ≡ f
triangle_path e f p q r s = λ i. record { x = p i; y = q i; level = r i; kind = s i }

-- ---- inside the root, in units of a side h
pub inside_units : (t h u v : ℕ) → t < 2 → 0 < h → inside_root t (u * h) (v * h) ≡ true → v + t ≤ u
inside_units zero h u v kind positive inside = omega (arith, le_of_mul-le-mul_right {m = v} {n = u} {k = h} (leb-true (v * h) (u * h) inside) positive)
inside_units (suc zero) h u v kind positive inside = omega (arith, lt_of_mul-lt-mul_right h {m = v} {n = u} (ltb-true (v * h) (u * h) inside))
inside_units (suc (suc t)) h u v kind positive inside = absurd (omega arith)

pub units_inside : (t h u v : ℕ) → t < 2 → 0 < h → v + t ≤ u → inside_root t (u * h) (v * h) ≡ true
units_inside zero h u v kind positive inside = le-leb (v * h) (u * h) (mul-le-mul_right h (omega arith))
units_inside (suc zero) h u v kind positive inside = lt-ltb (v * h) (u * h) (mul-lt-mul_of_pos_right (omega arith) positive)
units_inside (suc (suc t)) h u v kind positive inside = absurd (omega arith)

-- ---- what soundness says
pub record Known (L : ℕ) (e : Triangle) : Type 0 where
  pub shallow : e.level ≤ L
  pub grid_x : off_grid L e.level e.x ≡ false
  pub grid_y : off_grid L e.level e.y ≡ false
  pub typed : e.kind < 2
  pub inside : inside_root e.kind e.x e.y ≡ true

module _ (L : ℕ) where
  pub known : (e : Triangle) → fault L e ≡ 0 → Known L e
  known e sound =
      let after_1 = no_fault (ltb L e.level) 0 _ sound in
      let after_2 = no_fault (off_grid L e.level e.x || off_grid L e.level e.y) 1 _ after_1.1 in
      let after_3 = no_fault (ltb 1 e.kind) 2 _ after_2.1 in
      let after_4 = no_fault (not (inside_root e.kind e.x e.y)) 3 0 after_3.1 in
      let grids = or_none (off_grid L e.level e.x) (off_grid L e.level e.y) after_2.0 in
      let low = ltb-false 1 e.kind after_3.0 in
      record {
        shallow = ltb-false L e.level after_1.0;
        grid_x = grids.0;
        grid_y = grids.1;
        typed = omega arith;
        inside = not-false (inside_root e.kind e.x e.y) after_4.0;
      }

  pub sound : (e : Triangle) → Known L e → fault L e ≡ 0
  sound e k = simp (le-ltb L e.level k.shallow, k.grid_x, k.grid_y, le-ltb 1 e.kind (omega (arith, k.typed)), k.inside)

  -- inside the root, in sides of its level
  pub known_units : (e : Triangle) → Known L e → e.y / side L e.level + e.kind ≤ e.x / side L e.level
  known_units e k =
      inside_units e.kind (side L e.level) (e.x / side L e.level) (e.y / side L e.level) k.typed (side_pos L e.level)
      (rw (grid_units L e.level e.x k.grid_x, grid_units L e.level e.y k.grid_y) k.inside)

  -- ---- one step down
  child_known : (e : Triangle) (i : ℕ) → Known L e → e.level < L → i < 4 → Known L (child L e i)
  child_known e i k room small =
      let l = e.level in
      let s = child_row e.kind i in
      let bits = child_row_small e.kind i k.typed small in
      let u = e.x / side L l in
      let v = e.y / side L l in
      let in_x : (2 * u + s.x) * side L (suc l) ≡ e.x + s.x * side L (suc l) =
      sym (units_child L l u s.x room) ∙ ap (λ (m : ℕ). m + s.x * side L (suc l)) (grid_units L l e.x k.grid_x) in
      let in_y : (2 * v + s.y) * side L (suc l) ≡ e.y + s.y * side L (suc l) =
      sym (units_child L l v s.y room) ∙ ap (λ (m : ℕ). m + s.y * side L (suc l)) (grid_units L l e.y k.grid_y) in
      record {
        shallow = room;
        grid_x = child_grid L l e.x s.x room bits.0 k.grid_x;
        grid_y = child_grid L l e.y s.y room bits.1.0 k.grid_y;
        typed = bits.1.1;
        inside =
            rw (sym in_x, sym in_y)
            (units_inside s.kind (side L (suc l)) (2 * u + s.x) (2 * v + s.y) bits.1.1 (side_pos L (suc l))
            (child_inside u v e.kind i k.typed small (known_units e k)));
      }

  -- the step that leads to a child is its entry in the rows
  step_to_child : (e : Triangle) (i : ℕ) → Known L e → e.level < L → i < 4 → step_to L (child L e i) ≡ child_row e.kind i
  step_to_child e i k room small =
      let s = child_row e.kind i in
      let bits = child_row_small e.kind i k.typed small in
      let at_x = child_bit L e.level e.x s.x room bits.0 k.grid_x in
      let at_y = child_bit L e.level e.y s.y room bits.1.0 k.grid_y in
      λ j. record { x = at_x j; y = at_y j; kind = s.kind }

  parent_child : (e : Triangle) (i : ℕ) → Known L e → e.level < L → i < 4 → parent L (child L e i) ≡ e
  parent_child e i k room small =
      let s = child_row e.kind i in
      let bits = child_row_small e.kind i k.typed small in
      let up : suc e.level - 1 ≡ e.level = omega arith in
      triangle_path _ e
      (ap (λ (m : ℕ). rounded L m (e.x + s.x * side L (suc e.level))) up ∙ child_rounded L e.level e.x s.x room bits.0 k.grid_x)
      (ap (λ (m : ℕ). rounded L m (e.y + s.y * side L (suc e.level))) up ∙ child_rounded L e.level e.y s.y room bits.1.0 k.grid_y)
      up
      (ap parent_kind (step_to_child e i k room small) ∙ parent_kind_child e.kind i k.typed small)

  -- ---- one step up, from the level l + 1
  -- the step that leads there
  abbrev bits_at : ℕ → ℕ → ℕ → ℕ → Step
  bits_at l x y t = step (bit_at L (suc l) x) (bit_at L (suc l) y) t

  -- where it leads up to
  abbrev above : ℕ → ℕ → ℕ → ℕ → Triangle
  above l x y t = record { x = rounded L l x; y = rounded L l y; level = l; kind = parent_kind (bits_at l x y t) }

  module _ (l x y t : ℕ) (k : Known L (record { x = x; y = y; level = suc l; kind = t })) where
    parent_known_at : Known L (above l x y t)
    parent_known_at =
        let room : l < L = k.shallow in
        let u = x / side L (suc l) in
        let v = y / side L (suc l) in
        let up_x : rounded L l x ≡ u / 2 * side L l = ap (rounded L l) (sym (grid_units L (suc l) x k.grid_x)) ∙ units_rounded L l u room in
        let up_y : rounded L l y ≡ v / 2 * side L l = ap (rounded L l) (sym (grid_units L (suc l) y k.grid_y)) ∙ units_rounded L l v room in
        let small_x = bit_lt L (suc l) x in
        let small_y = bit_lt L (suc l) y in
        let typed = parent_kind_lt (u % 2) (v % 2) t small_x small_y k.typed in
        let within : 2 * (v / 2) + v % 2 + t ≤ 2 * (u / 2) + u % 2 = omega (arith, known_units _ k) in
        record {
          shallow = omega arith;
          grid_x = parent_grid L l x room k.grid_x;
          grid_y = parent_grid L l y room k.grid_y;
          typed = typed;
          inside =
              rw (up_x, up_y)
              (units_inside (parent_kind (bits_at l x y t)) (side L l) (u / 2) (v / 2) typed (side_pos L l)
              (parent_inside (u / 2) (v / 2) (u % 2) (v % 2) t small_x small_y k.typed within));
        }

    back_x : rounded L l x + bit_at L (suc l) x * side L (suc l) ≡ x
    back_x = parent_split L l x k.shallow k.grid_x

    back_y : rounded L l y + bit_at L (suc l) y * side L (suc l) ≡ y
    back_y = parent_split L l y k.shallow k.grid_y

    child_parent_at : child L (above l x y t) (number_of (bits_at l x y t)) ≡ record { x = x; y = y; level = suc l; kind = t }
    child_parent_at =
        let here = child_row_slot (bit_at L (suc l) x) (bit_at L (suc l) y) t (bit_lt L (suc l) x) (bit_lt L (suc l) y) k.typed in
        triangle_path _ _
        (ap (λ (s : Step). rounded L l x + s.x * side L (suc l)) here ∙ back_x)
        (ap (λ (s : Step). rounded L l y + s.y * side L (suc l)) here ∙ back_y)
        refl
        (ap (λ (s : Step). s.kind) here)

  -- an element below the root stands one level below its parent
  deeper : (e : Triangle) → 0 < e.level → e ≡ record { x = e.x; y = e.y; level = suc (e.level - 1); kind = e.kind }
  deeper e deep = triangle_path e _ refl refl (omega arith) refl

  module _ (e : Triangle) (deep : 0 < e.level) where
    whole : e.level ≡ suc (e.level - 1)
    whole = omega arith

    step_to_is : step_to L e ≡ bits_at (e.level - 1) e.x e.y e.kind
    step_to_is = ap (λ (m : ℕ). step (bit_at L m e.x) (bit_at L m e.y) e.kind) whole

    parent_is : parent L e ≡ above (e.level - 1) e.x e.y e.kind
    parent_is = triangle_path _ _ refl refl refl (ap parent_kind step_to_is)

    parent_sound : fault L e ≡ 0 → fault L (parent L e) ≡ 0
    parent_sound ok =
        subst⁻¹ (λ (f : Triangle). fault L f ≡ 0) parent_is
        (sound _ (parent_known_at (e.level - 1) e.x e.y e.kind (subst (Known L) (deeper e deep) (known e ok))))

    child_parent : fault L e ≡ 0 → child L (parent L e) (number_of (step_to L e)) ≡ e
    child_parent ok =
        ap₂ (child L) parent_is (ap number_of step_to_is)
        ∙ child_parent_at (e.level - 1) e.x e.y e.kind (subst (Known L) (deeper e deep) (known e ok))
        ∙ sym (deeper e deep)

  -- ---- level 0 holds the root alone
  root_only : (e : Triangle) → fault L e ≡ 0 → e.level ≡ 0 → e ≡ record { x = 0; y = 0; level = 0; kind = 0 }
  root_only e ok flat =
      let k = known e ok in
      let x0 : e.x ≡ 0 = grid_zero L e.x (subst (λ (m : ℕ). off_grid L m e.x ≡ false) flat k.grid_x) in
      let y0 : e.y ≡ 0 = grid_zero L e.y (subst (λ (m : ℕ). off_grid L m e.y ≡ false) flat k.grid_y) in
      let units = known_units e k in
      let none : e.x / side L e.level ≡ 0 = ap (λ (m : ℕ). m / side L e.level) x0 ∙ zero-div (side L e.level) in
      triangle_path e _ x0 y0 flat (omega arith)

  same_refl : (e : Triangle) → (triangle_to L).same e e ≡ true
  unfolding triangle_to
  same_refl e =
      simp (eq-eqb e.x e.x refl, eq-eqb e.y e.y refl, eq-eqb e.level e.level refl, eq-eqb e.kind e.kind refl)

  same_eq : (e f : Triangle) → (triangle_to L).same e f ≡ true → e ≡ f
  unfolding triangle_to
  same_eq e f h =
      let in_x = (and-eq-true_iff (eqb e.x f.x) _).0 h in
      let in_y = (and-eq-true_iff (eqb e.y f.y) _).0 in_x.1 in
      let in_level = (and-eq-true_iff (eqb e.level f.level) (eqb e.kind f.kind)).0 in_y.1 in
      triangle_path e f (eqb-true _ _ in_x.0) (eqb-true _ _ in_y.0) (eqb-true _ _ in_level.0) (eqb-true _ _ in_level.1)

  pub lawful : Lawful (triangle_to L)
  unfolding triangle_to
  lawful =
      record {
        several = omega arith;
        root_sound = sound (record { x = 0; y = 0; level = 0; kind = 0 }) (record { shallow = omega arith; grid_x = zero_grid L 0 (omega arith); grid_y = zero_grid L 0 (omega arith); typed = omega arith; inside = refl });
        root_level = refl;
        root_only = root_only;
        shallow = λ e ok. (known e ok).shallow;
        child_sound = λ e i ok room small. sound _ (child_known e i (known e ok) room small);
        child_level = λ e i. refl;
        parent_sound = λ e ok deep. parent_sound e deep ok;
        parent_level = λ e deep. omega arith;
        number_lt = λ e ok deep. number_of_lt (bit_at L e.level e.x) (bit_at L e.level e.y) e.kind (bit_lt L e.level e.x) (bit_lt L e.level e.y) (known e ok).typed;
        parent_child = λ e i ok room small. parent_child e i (known e ok) room small;
        number_child = λ e i ok room small. ap number_of (step_to_child e i (known e ok) room small) ∙ number_of_child_lem e.kind i (known e ok).typed small;
        child_parent = λ e ok deep. child_parent e deep ok;
        same_refl = same_refl;
        same_eq = same_eq;
      }

-- ---- what the code states of triangles
pub lawful_triangle : Lawful triangle
lawful_triangle = lawful HIGHEST

pub states_triangle : States triangle 2 4 3 3
unfolding triangle_to
states_triangle =
    record { highest = refl; by_bits = refl; in_a_word = omega arith; children_are = refl; faces_are = refl; corners_are = refl }

pub same_triangle : Same triangle (λ e f. eqb e.x f.x && (eqb e.y f.y && (eqb e.level f.level && eqb e.kind f.kind)))
unfolding triangle_to
same_triangle e f = refl
