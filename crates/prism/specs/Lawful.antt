-- A prism is a triangle times a line, so each of its laws is theirs, side by side: the child number's remainder by 4 is the triangle's
-- and its quotient the line's. Assumes nothing.
use mathlib.Core.Path.{◌≡◌, refl, ap₂, ◌∙◌}
use mathlib.Core.Bool.{true, false, not, ◌||◌, ◌&&◌, and-eq-true_iff}
use Prim.Native.Nat.{ℕ, ◌+◌, ◌*◌, ◌/◌, ◌%◌, ◌<◌}
use native.Mathlib.Omega.{arith}
use lib.Dec.{ltb, eqb}
use borrow.Author.Tests.{le-ltb, ltb-false, eq-eqb, eqb-true, not-false}
use Rattle.paper.proofs.Tests.{no_fault, or_none}
use Rattle.tree.specs.Anchors.{HIGHEST, off_grid}
use Rattle.tree.specs.Laws.{Lawful}
use Rattle.tree.specs.Stated.{States, Same}
use Rattle.tree.proofs.Digits.{digit_div, digit_mod}
use Rattle.line.specs.Elements.{line_to}
use Rattle.triangle.specs.Elements.{triangle_to, inside_root}
use Rattle.triangle.specs.Lawful.{Known}
use Rattle.line.specs.Elements as line
use Rattle.line.specs.Lawful as line_laws
use Rattle.triangle.specs.Elements as triangle
use Rattle.triangle.specs.Lawful as triangle_laws
use Rattle.prism.specs.declared.Prism.{Prism}
use Rattle.prism.specs.Elements.{prism, prism_to, fault, plan, upright, product, child, parent, number}

pub prism_path : (e f : Prism) → e.x ≡ f.x → e.y ≡ f.y → e.z ≡ f.z → e.level ≡ f.level → e.kind ≡ f.kind → e ≡ f
prism_path e f p q r s t = λ i. record { x = p i; y = q i; z = r i; level = s i; kind = t i }

module _ (L : ℕ) where
  -- ---- a sound prism is a sound triangle times a sound line
  pub grids : (e : Prism) → fault L e ≡ 0 → Known L (plan e) × (off_grid L e.level e.z ≡ false)
  grids e sound =
      let after_1 = no_fault (ltb L e.level) 0 _ sound in
      let after_2 = no_fault (off_grid L e.level e.x || (off_grid L e.level e.y || off_grid L e.level e.z)) 1 _ after_1.1 in
      let after_3 = no_fault (ltb 1 e.kind) 2 _ after_2.1 in
      let after_4 = no_fault (not (inside_root e.kind e.x e.y)) 3 0 after_3.1 in
      let x_on = or_none (off_grid L e.level e.x) (off_grid L e.level e.y || off_grid L e.level e.z) after_2.0 in
      let y_on = or_none (off_grid L e.level e.y) (off_grid L e.level e.z) x_on.1 in
      let low = ltb-false 1 e.kind after_3.0 in (
        record {
          shallow = ltb-false L e.level after_1.0;
          grid_x = x_on.0;
          grid_y = y_on.0;
          typed = omega arith;
          inside = not-false (inside_root e.kind e.x e.y) after_4.0;
        },
        y_on.1,
      )

  pub triangle_sound : (e : Prism) → fault L e ≡ 0 → triangle.fault L (plan e) ≡ 0
  triangle_sound e sound = triangle_laws.sound L (plan e) (grids e sound).0

  pub line_sound : (e : Prism) → fault L e ≡ 0 → line.fault L (upright e) ≡ 0
  line_sound e sound = line_laws.grid_sound L e.level e.z (grids e sound).0.shallow (grids e sound).1

  pub joined_sound : (e : Prism) → triangle.fault L (plan e) ≡ 0 → line.fault L (upright e) ≡ 0 → fault L e ≡ 0
  joined_sound e in_plan upright =
      let k = triangle_laws.known L (plan e) in_plan in
      let z_on = line_laws.sound_grid L e.level e.z upright in
      simp (le-ltb L e.level k.shallow, k.grid_x, k.grid_y, z_on, le-ltb 1 e.kind (omega (arith, k.typed)), k.inside)

  -- ---- the child's number in its two parts
  plan_lt : (i : ℕ) → i < 8 → i % 4 < 4
  plan_lt i small = omega arith

  upright_lt : (i : ℕ) → i < 8 → i / 4 < 2
  upright_lt i small = omega arith

  T : Lawful (triangle_to L)
  T = triangle_laws.lawful L

  M : Lawful (line_to L)
  M = line_laws.lawful L

  child_sound : (e : Prism) (i : ℕ) → fault L e ≡ 0 → e.level < L → i < 8 → fault L (child L e i) ≡ 0
  unfolding triangle_to line_to
  child_sound e i sound room small =
      joined_sound (child L e i)
      (T.child_sound (plan e) (i % 4) (triangle_sound e sound) room (plan_lt i small))
      (M.child_sound (upright e) (i / 4) (line_sound e sound) room (upright_lt i small))

  parent_sound : (e : Prism) → fault L e ≡ 0 → 0 < e.level → fault L (parent L e) ≡ 0
  unfolding triangle_to line_to
  parent_sound e sound deep =
      joined_sound (parent L e)
      (T.parent_sound (plan e) (triangle_sound e sound) deep)
      (M.parent_sound (upright e) (line_sound e sound) deep)

  number_lt : (e : Prism) → fault L e ≡ 0 → 0 < e.level → number L e < 8
  unfolding triangle_to line_to
  number_lt e sound deep =
      omega (arith, T.number_lt (plan e) (triangle_sound e sound) deep, M.number_lt (upright e) (line_sound e sound) deep)

  parent_child : (e : Prism) (i : ℕ) → fault L e ≡ 0 → e.level < L → i < 8 → parent L (child L e i) ≡ e
  unfolding triangle_to line_to
  parent_child e i sound room small =
      ap₂ product
      (T.parent_child (plan e) (i % 4) (triangle_sound e sound) room (plan_lt i small))
      (M.parent_child (upright e) (i / 4) (line_sound e sound) room (upright_lt i small))

  number_child : (e : Prism) (i : ℕ) → fault L e ≡ 0 → e.level < L → i < 8 → number L (child L e i) ≡ i
  unfolding triangle_to line_to
  number_child e i sound room small =
      ap₂ (λ (m t : ℕ). 4 * m + t)
      (M.number_child (upright e) (i / 4) (line_sound e sound) room (upright_lt i small))
      (T.number_child (plan e) (i % 4) (triangle_sound e sound) room (plan_lt i small))
      ∙ omega arith

  child_parent : (e : Prism) → fault L e ≡ 0 → 0 < e.level → child L (parent L e) (number L e) ≡ e
  unfolding triangle_to line_to
  child_parent e sound deep =
      let t = triangle.number L (plan e) in
      let m = line.number L (upright e) in
      let small = T.number_lt (plan e) (triangle_sound e sound) deep in
      ap₂ (λ (a b : ℕ). product (triangle.child L (triangle.parent L (plan e)) a) (line.child L (line.parent L (upright e)) b))
      (digit_mod 4 m t small)
      (digit_div 4 m t small)
      ∙ ap₂ product (T.child_parent (plan e) (triangle_sound e sound) deep) (M.child_parent (upright e) (line_sound e sound) deep)

  root_only : (e : Prism) → fault L e ≡ 0 → e.level ≡ 0 → e ≡ record { x = 0; y = 0; z = 0; level = 0; kind = 0 }
  unfolding triangle_to line_to
  root_only e sound flat =
      ap₂ product (T.root_only (plan e) (triangle_sound e sound) flat) (M.root_only (upright e) (line_sound e sound) flat)

  same_refl : (e : Prism) → (prism_to L).same e e ≡ true
  unfolding prism_to
  same_refl e =
      simp (eq-eqb e.x e.x refl, eq-eqb e.y e.y refl, eq-eqb e.z e.z refl, eq-eqb e.level e.level refl, eq-eqb e.kind e.kind refl)

  same_eq : (e f : Prism) → (prism_to L).same e f ≡ true → e ≡ f
  unfolding prism_to
  same_eq e f h =
      let in_x = (and-eq-true_iff (eqb e.x f.x) _).0 h in
      let in_y = (and-eq-true_iff (eqb e.y f.y) _).0 in_x.1 in
      let in_z = (and-eq-true_iff (eqb e.z f.z) _).0 in_y.1 in
      let in_level = (and-eq-true_iff (eqb e.level f.level) (eqb e.kind f.kind)).0 in_z.1 in
      prism_path e f (eqb-true _ _ in_x.0) (eqb-true _ _ in_y.0) (eqb-true _ _ in_z.0) (eqb-true _ _ in_level.0) (eqb-true _ _ in_level.1)

  pub lawful : Lawful (prism_to L)
  unfolding prism_to triangle_to line_to
  lawful =
      record {
        several = omega arith;
        root_sound = joined_sound (record { x = 0; y = 0; z = 0; level = 0; kind = 0 }) T.root_sound M.root_sound;
        root_level = refl;
        root_only = root_only;
        shallow = λ e sound. (grids e sound).0.shallow;
        child_sound = child_sound;
        child_level = λ e i. refl;
        parent_sound = parent_sound;
        parent_level = λ e deep. omega arith;
        number_lt = number_lt;
        parent_child = parent_child;
        number_child = number_child;
        child_parent = child_parent;
        same_refl = same_refl;
        same_eq = same_eq;
      }

-- ---- what the code states of prisms
pub lawful_prism : Lawful prism
lawful_prism = lawful HIGHEST

pub states_prism : States prism 3 8 5 6
unfolding prism_to
states_prism =
    record { highest = refl; by_bits = refl; in_a_word = omega arith; children_are = refl; faces_are = refl; corners_are = refl }

pub same_prism : Same prism (λ e f. eqb e.x f.x && (eqb e.y f.y && (eqb e.z f.z && (eqb e.level f.level && eqb e.kind f.kind))))
unfolding prism_to
same_prism e f = refl
