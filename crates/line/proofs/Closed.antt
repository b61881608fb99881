-- A line's words without recursion, as the code computes them: its position is its anchor in units of the side. Assumes nothing.
use mathlib.Core.Path.{◌≡◌, refl, ap, ◌∙◌, sym}
use Prim.Native.Nat.{ℕ, zero, suc, ◌+◌, ◌-◌, ◌*◌, ◌/◌, ◌%◌, ◌^◌, ◌≤◌, ◌<◌}
use native.Mathlib.Nat.{add-zero, add-suc, zero-mul}
use native.Mathlib.Omega.{arith}
use lib.Pow.{pow_mono}
use Rattle.tree.specs.Anchors.{side}
use Rattle.tree.specs.Words.{element_at, position, descend, first, last}
use Rattle.tree.specs.Laws.{Sound}
use Rattle.tree.proofs.Anchor.{grid_units, units_lt, units_child, side_suc}
use Rattle.tree.proofs.Digits.{div_lt}
use Rattle.tree.proofs.RoundTrip.{position_at_lem}
use Rattle.line.specs.declared.Line.{Line}
use Rattle.line.specs.Elements.{line_to}
use Rattle.line.specs.Lawful.{line_path, lawful, sound_level, sound_grid}

module _ (L : ℕ) where
  pub at_closed : (l p : ℕ) → l ≤ L → p < 2 ^ l → element_at (line_to L) l p ≡ record { x = p * side L l; level = l }
  unfolding element_at line_to
  at_closed zero p shallow below =
      let only : p ≡ 0 = omega arith in
      line_path _ _ (sym (ap (λ (k : ℕ). k * side L 0) only ∙ zero-mul (side L 0))) refl
  at_closed (suc l) p shallow below =
      let up = at_closed l (p / 2) (omega arith) (div_lt 2 p l (omega arith) below) in
      let whole : 2 * (p / 2) + p % 2 ≡ p = omega arith in
      line_path _ _
      (ap (λ (e : Line). e.x + p % 2 * side L (suc e.level)) up
      ∙ units_child L l (p / 2) (p % 2) shallow
      ∙ ap (λ (k : ℕ). k * side L (suc l)) whole)
      (ap (λ (e : Line). suc e.level) up)

  pub position_closed : (e : Line) → Sound (line_to L) e → position (line_to L) e ≡ e.x / side L e.level
  unfolding line_to
  position_closed e sound =
      let l = e.level in
      let u = e.x / side L l in
      let shallow = sound_level L l e.x sound in
      let on = sound_grid L l e.x sound in
      let below : u < 2 ^ l = units_lt L l e.x shallow on in
      let here : element_at (line_to L) l u ≡ e = at_closed l u shallow below ∙ line_path _ e (grid_units L l e.x on) refl in
      ap (position (line_to L)) (sym here) ∙ position_at_lem (line_to L) (lawful L) l u shallow below

  -- the first descendant keeps the anchor
  descend_first : (k : ℕ) (e : Line) → descend (line_to L) 0 k e ≡ record { x = e.x; level = e.level + k }
  unfolding descend line_to
  descend_first zero e = line_path e _ refl (sym (add-zero e.level))
  descend_first (suc k) e =
      let up = descend_first k e in
      line_path _ _
      (omega (arith, ap (λ (f : Line). f.x) up))
      (omega (arith, ap (λ (f : Line). f.level) up))

  -- the last one ends where the element ends
  descend_last : (k : ℕ) (e : Line) → e.level + k ≤ L
      → descend (line_to L) 1 k e ≡ record { x = e.x + (side L e.level - side L (e.level + k)); level = e.level + k }
  unfolding descend line_to
  descend_last zero e room =
      line_path e _
      (let same : side L (e.level + 0) ≡ side L e.level = ap (side L) (add-zero e.level) in omega arith)
      (sym (add-zero e.level))
  descend_last (suc k) e room =
      let up = descend_last k e (omega arith) in
      let l = e.level + k in
      let level : (descend (line_to L) 1 k e).level ≡ l = ap (λ (f : Line). f.level) up in
      let half : side L l ≡ 2 * side L (suc l) = side_suc L l (omega arith) in
      let here : side L (suc (descend (line_to L) 1 k e).level) ≡ side L (suc l) = ap (λ (m : ℕ). side L (suc m)) level in
      let next : side L (e.level + suc k) ≡ side L (suc l) = ap (side L) (add-suc e.level k) in
      let large : side L l ≤ side L e.level = pow_mono (omega arith) in
      line_path _ _
      (omega (arith, ap (λ (f : Line). f.x) up))
      (omega arith)

  pub first_closed : (e : Line) (l : ℕ) → e.level ≤ l → first (line_to L) e l ≡ record { x = e.x; level = l }
  unfolding line_to
  first_closed e l down =
      let same : e.level + (l - e.level) ≡ l = omega arith in
      descend_first (l - e.level) e ∙ ap (λ (k : ℕ). record { x = e.x; level = k }) same

  pub last_closed : (e : Line) (l : ℕ) → e.level ≤ l → l ≤ L → last (line_to L) e l ≡ record { x = e.x + (side L e.level - side L l); level = l }
  unfolding line_to
  last_closed e l down shallow =
      let same : e.level + (l - e.level) ≡ l = omega arith in
      descend_last (l - e.level) e (omega arith) ∙ ap (λ (k : ℕ). record { x = e.x + (side L e.level - side L k); level = k }) same
