-- A triangle's three corners and three faces, counted: along its corners x + y rises by a side each, in either type, and so the sums of the
-- three pairs of corners differ. Assumes nothing.
use mathlib.Core.Path.{◌≡◌, refl}
use mathlib.Core.List.{List, map}
use Prim.Native.Nat.{ℕ, zero, suc, ◌+◌, ◌<◌}
use native.Mathlib.Omega.{arith}
use lib.ListN.{get_or}
use Rattle.paper.specs.Outcome.{rows}
use Rattle.tree.specs.Anchors.{side}
use Rattle.tree.specs.Laws.{Constants}
use Rattle.tree.proofs.Anchor.{side_pos}
use Rattle.tree.proofs.Apart.{Apart, once}
use Rattle.triangle.specs.declared.Triangle.{Triangle}
use Rattle.triangle.specs.Elements.{triangle_to}
use Rattle.triangle.specs.Points.{Point, point, corner, corners, face_points, faces}

-- x + y
abbrev pub along : Point → ℕ
along p = p.x + p.y

-- of the first two together
abbrev along_two : List Point → ℕ
along_two ps = along (get_or ps 0 (point 0 0)) + along (get_or ps 1 (point 0 0))

module _ (L l x y : ℕ) where
  abbrev typed : ℕ → Triangle
  typed t = record { x = x; y = y; level = l; kind = t }

  listed : (t : ℕ) → corners L (typed t) ≡ rows (corner L (typed t)) 0 3
  listed zero = refl
  listed (suc t) = refl

  corners_differ : (t : ℕ) → 0 < side L l → Apart (map along (corners L (typed t)))
  corners_differ zero positive = omega arith
  corners_differ (suc t) positive = omega arith

  faces_differ : (t : ℕ) → 0 < side L l → Apart (map along_two (faces L (typed t)))
  faces_differ zero positive = omega arith
  faces_differ (suc t) positive = omega arith

pub constants : (L : ℕ) → Constants (triangle_to L) (corner L) (corners L) (face_points L) (faces L)
unfolding triangle_to
constants L =
    record {
      corners_are = λ e. listed L e.level e.x e.y e.kind;
      corners_apart = λ e. once along (corners L e) (corners_differ L e.level e.x e.y e.kind (side_pos L e.level));
      faces_are = λ e. refl;
      faces_apart = λ e. once along_two (faces L e) (faces_differ L e.level e.x e.y e.kind (side_pos L e.level));
    }
