-- A prism's six corners and five faces, counted: along its corners x + y + 3z rises by a side each, as it does along its triangle's by x + y, so
-- the sums of the second and the third corner of the five faces differ. Assumes nothing.
use mathlib.Core.Path.{◌≡◌, refl, ap, ap₂, ◌∙◌}
use mathlib.Core.List.{List, ◌++◌, map}
use Prim.Native.Nat.{ℕ, zero, suc, ◌+◌, ◌*◌, ◌<◌}
use native.Mathlib.Omega.{arith}
use lib.ListN.{get_or}
use Rattle.paper.specs.Outcome.{rows}
use Rattle.tree.specs.Anchors.{side}
use Rattle.tree.specs.Laws.{Constants}
use Rattle.tree.proofs.Anchor.{side_pos}
use Rattle.tree.proofs.Apart.{Apart, once}
use Rattle.line.proofs.Constants.{lower, upper}
use Rattle.triangle.specs.Points.{Point, point}
use Rattle.triangle.specs.Points as triangle
use Rattle.triangle.specs.Elements.{triangle_to}
use Rattle.triangle.proofs.Constants as triangle_counted
use Rattle.prism.specs.declared.Prism.{Prism}
use Rattle.prism.specs.Elements.{prism_to, plan}
use Rattle.prism.specs.Points.{Corner, lifted, corner, corners, face_points, faces}

-- x + y + 3z
abbrev pub along : Corner → ℕ
along c = triangle_counted.along c.plan + 3 * c.height

-- of the second and the third together
abbrev along_two : List Corner → ℕ
along_two cs = let o = lifted 0 (point 0 0) in along (get_or cs 1 o) + along (get_or cs 2 o)

module _ (L l x y z : ℕ) where
  abbrev typed : ℕ → Prism
  typed t = record { x = x; y = y; z = z; level = l; kind = t }

  corners_differ : (t : ℕ) → 0 < side L l → Apart (map along (corners L (typed t)))
  corners_differ zero positive = omega arith
  corners_differ (suc t) positive = omega arith

  faces_differ : (t : ℕ) → 0 < side L l → Apart (map along_two (faces L (typed t)))
  faces_differ zero positive = omega arith
  faces_differ (suc t) positive = omega arith

-- a list of points at two heights
abbrev stacked : ℕ → ℕ → List Point → List Corner
stacked low high ps = map (lifted low) ps ++ map (lifted high) ps

listed : (L : ℕ) (e : Prism) → corners L e ≡ rows (corner L e) 0 6
unfolding triangle_to
listed L e =
    let h = side L e.level in
    ap₂ (λ (a b : ℕ). stacked a b (triangle.corners L (plan e))) (lower e.z h) (upper e.z h)
    ∙ ap (stacked (e.z + 0 * h) (e.z + 1 * h)) ((triangle_counted.constants L).corners_are (plan e))

pub constants : (L : ℕ) → Constants (prism_to L) (corner L) (corners L) (face_points L) (faces L)
unfolding prism_to
constants L =
    record {
      corners_are = listed L;
      corners_apart = λ e. once along (corners L e) (corners_differ L e.level e.x e.y e.z e.kind (side_pos L e.level));
      faces_are = λ e. refl;
      faces_apart = λ e. once along_two (faces L e) (faces_differ L e.level e.x e.y e.z e.kind (side_pos L e.level));
    }
