-- What the last check means. Where the fault is none or 4, the three checks before it pass. A sound triangle is inside the root by whole sides,
-- so its corners are; and y <= x of corner 0 is the check on type 0, y + h <= x of corner 1 the check on type 1. Assumes nothing.
use mathlib.Core.Path.{◌≡◌, refl, subst⁻¹}
use mathlib.Core.Logic.{◌⊎◌, inl, inr}
use mathlib.Core.Bool.{Bool, true, false, not, ◌||◌}
use Prim.Native.Nat.{ℕ, ◌+◌, ◌*◌, ◌/◌, ◌%◌, ◌^◌, ◌≤◌, ◌<◌}
use native.Mathlib.Nat.{mul-le-mul_right, add-mul, div-add-mod'}
use native.Mathlib.Omega.{arith}
use lib.Dec.{ltb}
use borrow.Author.Tests.{lt-leb, le-leb, lt-ltb, le-ltb, ltb-false}
use Rattle.paper.specs.Outcome.{fault_when}
use Rattle.paper.proofs.Tests.{or_none}
use Rattle.tree.specs.Anchors.{side, off_grid}
use Rattle.tree.proofs.Anchor.{side_pos, grid_units, grid_lt, end_inside}
use Rattle.tree.proofs.Cases.{below_2}
use Rattle.rows.proofs.Tables.{each_face}
use Rattle.triangle.specs.declared.Triangle.{Triangle}
use Rattle.triangle.specs.Elements.{triangle_to, fault, inside_root}
use Rattle.triangle.specs.Points.{corner, InRoot, OnGrid, Refusal4}
use Rattle.triangle.specs.Lawful.{Known, known, sound, known_units}

-- ---- four checks in turn, of which the last alone is refused 4
abbrev pub fourth : Bool → ℕ
fourth d = fault_when d 4 0

abbrev pub NoneOr4 : ℕ → Type 0
NoneOr4 n = (n ≡ 0) ⊎ (n ≡ 4)

pub fourth_is : (d : Bool) → NoneOr4 (fourth d)
fourth_is true = inr refl
fourth_is false = inl refl

neither : (k : ℕ) → NoneOr4 k → 0 < k → k < 4 → ⊥
neither k (inl none) above below = omega arith
neither k (inr four) above below = omega arith

pub three_pass : (a b c d : Bool) → NoneOr4 (fault_when a 1 (fault_when b 2 (fault_when c 3 (fourth d)))) → (a ≡ false) × ((b ≡ false) × (c ≡ false))
three_pass true b c d n = absurd (neither 1 n (omega arith) (omega arith))
three_pass false true c d n = absurd (neither 2 n (omega arith) (omega arith))
three_pass false false true d n = absurd (neither 3 n (omega arith) (omega arith))
three_pass false false false d n = (refl, (refl, refl))

-- ---- a triangle at (x, y)
module _ (L l x y : ℕ) where
  abbrev typed : ℕ → Triangle
  typed t = record { x = x; y = y; level = l; kind = t }

  inside_corner : (t i : ℕ) → t < 2 → i < 3 → y + t * side L l ≤ x → x + side L l ≤ 2 ^ L → InRoot L (corner L (typed t) i)
  inside_corner =
      each_face (λ (t i : ℕ). y + t * side L l ≤ x → x + side L l ≤ 2 ^ L → InRoot L (corner L (typed t) i))
      (omega arith) (omega arith) (omega arith) (omega arith) (omega arith) (omega arith)

  corner_inside : (t : ℕ) → t < 2 → InRoot L (corner L (typed t) 0) → InRoot L (corner L (typed t) 1) → inside_root t x y ≡ true
  corner_inside =
      let positive = side_pos L l in
      below_2 (λ (t : ℕ). InRoot L (corner L (typed t) 0) → InRoot L (corner L (typed t) 1) → inside_root t x y ≡ true)
      (λ first second. le-leb y x first.ordered)
      (λ first second. lt-ltb y x (omega (arith, second.ordered)))

abbrev pub outside : Triangle → Bool
outside e = not (inside_root e.kind e.x e.y)

scaled_up : (h u v t x y : ℕ) → u * h ≡ x → v * h ≡ y → v + t ≤ u → y + t * h ≤ x
scaled_up h u v t x y at_x at_y inside = omega (arith, mul-le-mul_right h inside, add-mul v t h)

module _ (L : ℕ) where
  -- inside the root by whole sides
  pub known_sides : (e : Triangle) → Known L e → e.y + e.kind * side L e.level ≤ e.x
  known_sides e k =
      let h = side L e.level in
      scaled_up h (e.x / h) (e.y / h) e.kind e.x e.y
      (grid_units L e.level e.x k.grid_x) (grid_units L e.level e.y k.grid_y)
      (known_units L e k)

  pub multiple_grid : (l x : ℕ) → x < 2 ^ L → x % side L l ≡ 0 → off_grid L l x ≡ false
  multiple_grid l x below whole = simp (lt-leb (2 ^ L) x below, whole)

  pub grid_multiple : (l x : ℕ) → off_grid L l x ≡ false → x % side L l ≡ 0
  grid_multiple l x on = omega (arith, div-add-mod' x (side L l), grid_units L l x on)

  -- the checks 1, 2 and 3
  pub passed_grid : (e : Triangle) → ltb L e.level ≡ false → off_grid L e.level e.x ≡ false → off_grid L e.level e.y ≡ false
      → ltb 1 e.kind ≡ false → OnGrid L e
  passed_grid e shallow grid_x grid_y typed =
      record {
        shallow = ltb-false L e.level shallow;
        x_below = grid_lt L e.level e.x grid_x;
        x_multiple = grid_multiple e.level e.x grid_x;
        y_below = grid_lt L e.level e.y grid_y;
        y_multiple = grid_multiple e.level e.y grid_y;
        typed = ltb-false 1 e.kind typed;
      }

  grid_fourth : (e : Triangle) → OnGrid L e → fault L e ≡ fourth (outside e)
  grid_fourth e g =
      simp (
        le-ltb L e.level g.shallow,
        multiple_grid e.level e.x g.x_below g.x_multiple,
        multiple_grid e.level e.y g.y_below g.y_multiple,
        le-ltb 1 e.kind g.typed,
      )

  grid_of_lem : (e : Triangle) → NoneOr4 (fault L e) → OnGrid L e
  grid_of_lem e n =
      let x_off = off_grid L e.level e.x in
      let y_off = off_grid L e.level e.y in
      let pass = three_pass (ltb L e.level) (x_off || y_off) (ltb 1 e.kind) (outside e) n in
      let on = or_none x_off y_off pass.1.0 in
      passed_grid e pass.0 on.0 on.1 pass.1.1

  grid_known : (e : Triangle) → OnGrid L e → ((i : ℕ) → i < 3 → InRoot L (corner L e i)) → Known L e
  grid_known e g inside =
      let two_types : e.kind < 2 = omega (arith, g.typed) in
      record {
        shallow = g.shallow;
        grid_x = multiple_grid e.level e.x g.x_below g.x_multiple;
        grid_y = multiple_grid e.level e.y g.y_below g.y_multiple;
        typed = two_types;
        inside = corner_inside L e.level e.x e.y e.kind two_types (inside 0 (omega arith)) (inside 1 (omega arith));
      }

  known_inside : (e : Triangle) → Known L e → (i : ℕ) → i < 3 → InRoot L (corner L e i)
  known_inside e k i small =
      inside_corner L e.level e.x e.y e.kind i k.typed small (known_sides e k)
      (end_inside L e.level e.x k.shallow k.grid_x)

  pub refusal_4 : Refusal4 L
  unfolding triangle_to
  refusal_4 =
      record {
        on_grid = λ e. (λ g. subst⁻¹ NoneOr4 (grid_fourth e g) (fourth_is (outside e)), grid_of_lem e);
        inside = λ e g. (λ ok. known_inside e (known L e ok), λ inside. sound L e (grid_known e g inside));
      }
