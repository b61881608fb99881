-- Triangles in units of their own side, as the loops hold them, and the words without recursion. Assumes nothing.
use mathlib.Core.Path.{◌≡◌, refl, ap, ap₂, ◌∙◌, sym}
use Prim.Native.Nat.{ℕ, zero, suc, ◌+◌, ◌-◌, ◌*◌, ◌/◌, ◌%◌, ◌≤◌, ◌<◌}
use native.Mathlib.Nat.{add-zero, add-suc}
use native.Mathlib.Omega.{arith}
use Rattle.tree.specs.Anchors.{side, rounded}
use Rattle.tree.specs.Words.{descend, first, last}
use Rattle.tree.proofs.Anchor.{side_suc, side_le, units_child, units_rounded, units_bit, grid_units}
use Rattle.tree.proofs.Cases.{below_2}
use Rattle.rows.specs.declared.Step.{Step}
use Rattle.triangle.specs.declared.Triangle.{Triangle}
use Rattle.rows.specs.Rows.{step, child_row, parent_kind, number_of}
use Rattle.triangle.specs.Elements.{triangle_to, step_to, child, parent, number}
use Rattle.triangle.specs.Lawful.{triangle_path, Known}

-- the first and the last child keep their parent's type, and stand at its two ends
child_row_first : (t : ℕ) → t < 2 → child_row t 0 ≡ step 0 0 t
child_row_first = below_2 (λ (t : ℕ). child_row t 0 ≡ step 0 0 t) refl refl

child_row_last : (t : ℕ) → t < 2 → child_row t 3 ≡ step 1 1 t
child_row_last = below_2 (λ (t : ℕ). child_row t 3 ≡ step 1 1 t) refl refl

module _ (L : ℕ) where
  abbrev pub unit : ℕ → ℕ → ℕ → ℕ → Triangle
  unit l u v t = record { x = u * side L l; y = v * side L l; level = l; kind = t }

  pub unit_self : (e : Triangle) → Known L e → e ≡ unit e.level (e.x / side L e.level) (e.y / side L e.level) e.kind
  unit_self e k = triangle_path e _ (sym (grid_units L e.level e.x k.grid_x)) (sym (grid_units L e.level e.y k.grid_y)) refl refl

  -- ---- one step
  pub unit_child : (l u v t i : ℕ) → l < L
      → child L (unit l u v t) i ≡ unit (suc l) (2 * u + (child_row t i).x) (2 * v + (child_row t i).y) (child_row t i).kind
  unit_child l u v t i room =
      triangle_path _ _ (units_child L l u (child_row t i).x room) (units_child L l v (child_row t i).y room) refl refl

  pub unit_step : (l u v t : ℕ) → step_to L (unit l u v t) ≡ step (u % 2) (v % 2) t
  unit_step l u v t = ap₂ (λ (a b : ℕ). step a b t) (units_bit L l u) (units_bit L l v)

  pub unit_parent : (l u v t : ℕ) → l < L → parent L (unit (suc l) u v t) ≡ unit l (u / 2) (v / 2) (parent_kind (step (u % 2) (v % 2) t))
  unit_parent l u v t room =
      let up : suc l - 1 ≡ l = omega arith in
      triangle_path _ _
      (ap (λ (m : ℕ). rounded L m (u * side L (suc l))) up ∙ units_rounded L l u room)
      (ap (λ (m : ℕ). rounded L m (v * side L (suc l))) up ∙ units_rounded L l v room)
      up
      (ap parent_kind (unit_step (suc l) u v t))

  pub unit_number : (l u v t : ℕ) → number L (unit l u v t) ≡ number_of (step (u % 2) (v % 2) t)
  unit_number l u v t = ap number_of (unit_step l u v t)

  -- ---- first and last descendant
  descend_first : (k : ℕ) (e : Triangle) → e.kind < 2
      → descend (triangle_to L) 0 k e ≡ record { x = e.x; y = e.y; level = e.level + k; kind = e.kind }
  unfolding descend triangle_to
  descend_first zero e typed = triangle_path e _ refl refl (sym (add-zero e.level)) refl
  descend_first (suc k) e typed =
      let up = descend_first k e typed in
      let here : child_row (descend (triangle_to L) 0 k e).kind 0 ≡ step 0 0 e.kind =
      ap (λ (f : Triangle). child_row f.kind 0) up ∙ child_row_first e.kind typed in
      let none_x = ap (λ (s : Step). s.x * side L (suc (descend (triangle_to L) 0 k e).level)) here in
      let none_y = ap (λ (s : Step). s.y * side L (suc (descend (triangle_to L) 0 k e).level)) here in
      triangle_path _ _
      (omega (arith, ap (λ (f : Triangle). f.x) up))
      (omega (arith, ap (λ (f : Triangle). f.y) up))
      (omega (arith, ap (λ (f : Triangle). f.level) up))
      (ap (λ (s : Step). s.kind) here)

  abbrev ended : Triangle → ℕ → Triangle
  ended e l =
      record { x = e.x + (side L e.level - side L l); y = e.y + (side L e.level - side L l); level = l; kind = e.kind }

  descend_last : (k : ℕ) (e : Triangle) → e.kind < 2 → e.level + k ≤ L → descend (triangle_to L) 3 k e ≡ ended e (e.level + k)
  unfolding descend triangle_to
  descend_last zero e typed room =
      let same : side L (e.level + 0) ≡ side L e.level = ap (side L) (add-zero e.level) in
      triangle_path e _ (omega arith) (omega arith) (sym (add-zero e.level)) refl
  descend_last (suc k) e typed room =
      let up = descend_last k e typed (omega arith) in
      let l = e.level + k in
      let deep = (descend (triangle_to L) 3 k e).level in
      let here : child_row (descend (triangle_to L) 3 k e).kind 3 ≡ step 1 1 e.kind =
      ap (λ (f : Triangle). child_row f.kind 3) up ∙ child_row_last e.kind typed in
      let level : deep ≡ l = ap (λ (f : Triangle). f.level) up in
      let half : side L l ≡ 2 * side L (suc l) = side_suc L l (omega arith) in
      let below : side L (suc deep) ≡ side L (suc l) = ap (λ (m : ℕ). side L (suc m)) level in
      let next : side L (e.level + suc k) ≡ side L (suc l) = ap (side L) (add-suc e.level k) in
      let large : side L l ≤ side L e.level = side_le L e.level l (omega arith) in
      let one_x : (child_row (descend (triangle_to L) 3 k e).kind 3).x * side L (suc deep) ≡ 1 * side L (suc deep) =
      ap (λ (s : Step). s.x * side L (suc deep)) here in
      let one_y : (child_row (descend (triangle_to L) 3 k e).kind 3).y * side L (suc deep) ≡ 1 * side L (suc deep) =
      ap (λ (s : Step). s.y * side L (suc deep)) here in
      triangle_path _ _
      (omega (arith, ap (λ (f : Triangle). f.x) up))
      (omega (arith, ap (λ (f : Triangle). f.y) up))
      (omega arith)
      (ap (λ (s : Step). s.kind) here)

  pub first_closed : (e : Triangle) (l : ℕ) → e.kind < 2 → e.level ≤ l
      → first (triangle_to L) e l ≡ record { x = e.x; y = e.y; level = l; kind = e.kind }
  unfolding triangle_to
  first_closed e l typed down =
      let same : e.level + (l - e.level) ≡ l = omega arith in
      descend_first (l - e.level) e typed ∙ ap (λ (k : ℕ). record { x = e.x; y = e.y; level = k; kind = e.kind }) same

  pub last_closed : (e : Triangle) (l : ℕ) → e.kind < 2 → e.level ≤ l → l ≤ L → last (triangle_to L) e l ≡ ended e l
  unfolding triangle_to
  last_closed e l typed down shallow =
      let same : e.level + (l - e.level) ≡ l = omega arith in
      descend_last (l - e.level) e typed (omega arith) ∙ ap (ended e) same
