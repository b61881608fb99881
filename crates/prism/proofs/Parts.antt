-- A prism's descendants are its triangle's and its line's, side by side. Assumes nothing.
use mathlib.Core.Path.{◌≡◌, refl, ap, ap₂, ◌∙◌, sym}
use Prim.Native.Nat.{ℕ, zero, suc, ◌+◌, ◌-◌, ◌/◌, ◌%◌, ◌≤◌, ◌<◌}
use native.Mathlib.Nat.{add-zero}
use native.Mathlib.Omega.{arith}
use Rattle.tree.specs.Anchors.{side}
use Rattle.tree.specs.Words.{descend, first, last}
use Rattle.line.specs.declared.Line.{Line}
use Rattle.line.specs.Elements.{line_to}
use Rattle.triangle.specs.declared.Triangle.{Triangle}
use Rattle.triangle.specs.Elements.{triangle_to}
use Rattle.line.specs.Elements as line
use Rattle.line.proofs.Closed as line_closed
use Rattle.triangle.specs.Elements as triangle
use Rattle.triangle.proofs.Units as triangle_units
use Rattle.prism.specs.declared.Prism.{Prism}
use Rattle.prism.specs.Elements.{prism_to, plan, upright, product}

module _ (L : ℕ) where
  descend_parts : (i k : ℕ) (e : Prism)
      → descend (prism_to L) i k e ≡ product (descend (triangle_to L) (i % 4) k (plan e)) (descend (line_to L) (i / 4) k (upright e))
  unfolding descend prism_to triangle_to line_to
  descend_parts i zero e = refl
  descend_parts i (suc k) e =
      let up = descend_parts i k e in
      let t = descend (triangle_to L) (i % 4) k (plan e) in
      let m = descend (line_to L) (i / 4) k (upright e) in
      let level : t.level ≡ m.level = triangle_level k (plan e) ∙ sym (line_level k (upright e)) in
      ap (λ (f : Prism). product (triangle.child L (plan f) (i % 4)) (line.child L (upright f) (i / 4))) up
      ∙ ap (λ (l : ℕ). product (triangle.child L t (i % 4)) (line.child L (record { x = m.x; level = l }) (i / 4))) level
    where
      triangle_level : (n : ℕ) (t : Triangle) → (descend (triangle_to L) (i % 4) n t).level ≡ t.level + n
      triangle_level zero t = sym (add-zero t.level)
      triangle_level (suc n) t = omega (arith, triangle_level n t)

      line_level : (n : ℕ) (m : Line) → (descend (line_to L) (i / 4) n m).level ≡ m.level + n
      line_level zero m = sym (add-zero m.level)
      line_level (suc n) m = omega (arith, line_level n m)

  pub last_closed : (e : Prism) (l : ℕ) → e.kind < 2 → e.level ≤ l → l ≤ L
      → last (prism_to L) e l
      ≡ (let d = side L e.level - side L l in record { x = e.x + d; y = e.y + d; z = e.z + d; level = l; kind = e.kind })
  unfolding prism_to triangle_to line_to
  last_closed e l typed down shallow =
      descend_parts 7 (l - e.level) e
      ∙ ap₂ product (triangle_units.last_closed L (plan e) l typed down shallow) (line_closed.last_closed L (upright e) l down shallow)

  pub first_closed : (e : Prism) (l : ℕ) → e.kind < 2 → e.level ≤ l
      → first (prism_to L) e l ≡ record { x = e.x; y = e.y; z = e.z; level = l; kind = e.kind }
  unfolding prism_to triangle_to line_to
  first_closed e l typed down =
      descend_parts 0 (l - e.level) e
      ∙ ap₂ product (triangle_units.first_closed L (plan e) l typed down) (line_closed.first_closed L (upright e) l down)
