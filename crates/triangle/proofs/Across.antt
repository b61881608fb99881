-- A triangle's neighbour, once both its coordinates are within the edge: by its type. Assumes nothing.
use mathlib.Core.Path.{◌≡◌, ap, ap₂, ◌∙◌, sym}
use mathlib.Core.Bool.{Bool, false, not, ◌||◌}
use Prim.Native.Nat.{ℕ}
use Rattle.paper.specs.Outcome.{accepted, refuse_when}
use Rattle.tree.specs.Anchors.{side, moved, off_edge}
use Rattle.rows.specs.declared.Step.{Step}
use Rattle.triangle.specs.declared.Triangle.{Triangle}
use Rattle.triangle.specs.Elements.{inside_root, across_by}

-- ---- across a face. s is its row; h is the side, as the code has it
module _ (e : Triangle) (s : Step) (h : ℕ) (sized : h ≡ side 21 e.level) where
  -- the definition, with the code's side
  abbrev out : Bool
  out = off_edge 21 h s.x e.x || (off_edge 21 h s.y e.y || not (inside_root s.kind (moved h s.x e.x) (moved h s.y e.y)))

  across_is : refuse_when out 10 (accepted (record { x = moved h s.x e.x; y = moved h s.y e.y; level = e.level; kind = s.kind })) ≡ across_by 21 e s
  across_is =
      ap
      (λ (k : ℕ).
      refuse_when (off_edge 21 k s.x e.x || (off_edge 21 k s.y e.y || not (inside_root s.kind (moved k s.x e.x) (moved k s.y e.y)))) 10
      (accepted (record { x = moved k s.x e.x; y = moved k s.y e.y; level = e.level; kind = s.kind })))
      sized

  -- x and y are the moved coordinates, as the code has them
  pub within : (x y : ℕ) → (off_edge 21 h s.x e.x ≡ false) × (x ≡ moved h s.x e.x) → (off_edge 21 h s.y e.y ≡ false) × (y ≡ moved h s.y e.y)
      → not (inside_root s.kind x y) ≡ false → accepted (record { x = x; y = y; level = e.level; kind = s.kind }) ≡ across_by 21 e s
  within x y (stays_x, at_x) (stays_y, at_y) inside =
      let there : not (inside_root s.kind (moved h s.x e.x) (moved h s.y e.y)) ≡ false =
      ap₂ (λ (a b : ℕ). not (inside_root s.kind a b)) (sym at_x) (sym at_y) ∙ inside in
      ap₂ (λ (a b : ℕ). accepted (record { x = a; y = b; level = e.level; kind = s.kind })) at_x at_y
      ∙ sym (simp (stays_x, stays_y, there))
      ∙ across_is
