-- Along each face of a prism x + y + 3z rises, so faces with the same points have one list. Assumes nothing.
use mathlib.Core.Path.{◌≡◌}
use mathlib.Core.List.{map}
use Prim.Native.Nat.{ℕ, zero, suc, ◌<◌}
use native.Mathlib.Nat.{ℕ_set}
use native.Mathlib.Omega.{arith}
use Rattle.tree.specs.Anchors.{side}
use Rattle.tree.proofs.Anchor.{side_pos}
use Rattle.tree.proofs.Cases.{below_5}
use Rattle.tree.proofs.SameMembers.{Rising, Alike, same_list}
use Rattle.triangle.proofs.SamePoints.{point_set}
use Rattle.prism.specs.declared.Prism.{Prism}
use Rattle.prism.specs.Points.{Corner, lifted, face_points}
use Rattle.prism.proofs.Constants.{along}

corner_set : IsSet Corner
corner_set c d a b = λ i j.
    lifted
    (ℕ_set c.height d.height (λ k. (a k).height) (λ k. (b k).height) i j)
    (point_set c.plan d.plan (λ k. (a k).plan) (λ k. (b k).plan) i j)

module _ (L l x y z : ℕ) (positive : 0 < side L l) where
  abbrev typed : ℕ → Prism
  typed t = record { x = x; y = y; z = z; level = l; kind = t }

  rising : (t i : ℕ) → i < 5 → Rising (map along (face_points L (typed t) i))
  rising zero =
      below_5 (λ (i : ℕ). Rising (map along (face_points L (typed zero) i))) (omega arith) (omega arith) (omega arith) (omega arith) (omega arith)
  rising (suc t) =
      below_5 (λ (i : ℕ). Rising (map along (face_points L (typed (suc t)) i))) (omega arith) (omega arith) (omega arith) (omega arith) (omega arith)

module _ (L : ℕ) where
  rises : (e : Prism) (i : ℕ) → i < 5 → Rising (map along (face_points L e i))
  rises e = rising L e.level e.x e.y e.z (side_pos L e.level) e.kind

  pub same_points : (e f : Prism) (i j : ℕ) → i < 5 → j < 5 → Alike (face_points L e i) (face_points L f j) → face_points L e i ≡ face_points L f j
  same_points e f i j small face = same_list corner_set along (face_points L e i) (face_points L f j) (rises e i small) (rises f j face)
