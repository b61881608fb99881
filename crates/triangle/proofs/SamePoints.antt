-- Along each face of a triangle x + y rises, so faces with the same points have one list. Assumes nothing.
use mathlib.Core.Path.{◌≡◌}
use mathlib.Core.List.{map}
use Prim.Native.Nat.{ℕ, zero, suc, ◌<◌}
use native.Mathlib.Nat.{ℕ_set}
use native.Mathlib.Omega.{arith}
use Rattle.tree.specs.Anchors.{side}
use Rattle.tree.proofs.Anchor.{side_pos}
use Rattle.tree.proofs.SameMembers.{Rising, Alike, same_list}
use Rattle.triangle.specs.declared.Triangle.{Triangle}
use Rattle.triangle.specs.Points.{Point, point, face_points}
use Rattle.triangle.proofs.Constants.{along}

pub point_set : IsSet Point
point_set p q a b = λ i j.
    point (ℕ_set p.x q.x (λ k. (a k).x) (λ k. (b k).x) i j) (ℕ_set p.y q.y (λ k. (a k).y) (λ k. (b k).y) i j)

module _ (L l x y : ℕ) (positive : 0 < side L l) where
  abbrev typed : ℕ → Triangle
  typed t = record { x = x; y = y; level = l; kind = t }

  rising : (t i : ℕ) → Rising (map along (face_points L (typed t) i))
  rising zero zero = omega arith
  rising zero (suc zero) = omega arith
  rising zero (suc (suc i)) = omega arith
  rising (suc t) zero = omega arith
  rising (suc t) (suc zero) = omega arith
  rising (suc t) (suc (suc i)) = omega arith

module _ (L : ℕ) where
  rises : (e : Triangle) (i : ℕ) → Rising (map along (face_points L e i))
  rises e i = rising L e.level e.x e.y (side_pos L e.level) e.kind i

  pub same_points : (e f : Triangle) (i j : ℕ) → Alike (face_points L e i) (face_points L f j) → face_points L e i ≡ face_points L f j
  same_points e f i j = same_list point_set along (face_points L e i) (face_points L f j) (rises e i) (rises f j)
