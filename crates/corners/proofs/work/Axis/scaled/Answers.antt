-- `scaled` meets its contract: the three heights lie from -2^30 to 2^30, and Q is made of them. Assumes nothing.
use mathlib.Core.Path.{◌≡◌, refl, ◌∙◌, subst⁻¹}
use Prim.Native.Nat.{ℕ, ◌^◌, ◌≤◌}
use lib.Dec.{lit≤}
use lib.IntN.{ℤ, nat_abs}
use mir.Syntax.{w64}
use mir.Val.{to_z, of_z}
use Rattle.corners.specs.Inner.{mix}
use Rattle.corners.proofs.Offsets.{height}
use Rattle.corners.proofs.MachineWords.{kept}
use Rattle.corners.proofs.work.Axis.scaled.Goals as goal

-- a number of the root reads as itself
itself : (v : ℤ) → nat_abs v ≤ 512 → to_z w64 (of_z w64 v) ≡ v
itself v small = kept 512 refl small (lit≤ tt)

near : (v : ℤ) → nat_abs v ≤ 512 → nat_abs (to_z w64 (of_z w64 v)) ≤ 512
near v small = subst⁻¹ (λ (z : ℤ). nat_abs z ≤ 512) (itself v small) small

-- what was found of a height, and how the machine reads it again
module _ (r low high : ℤ) (Z : ℕ) (l : nat_abs low ≤ 512) (h : nat_abs high ≤ 512) (inside : Z ≤ 2 ^ 21)
    (found : r ≡ mix (to_z w64 (of_z w64 low)) (to_z w64 (of_z w64 high)) Z) where
  is : r ≡ mix low high Z
  is = found ∙ (λ i. mix (itself low l i) (itself high h i) Z)

  again : to_z w64 (of_z w64 r) ≡ mix low high Z
  again = kept (2 ^ 30) is (height low high Z l h inside) (lit≤ tt)

  tall : nat_abs (to_z w64 (of_z w64 r)) ≤ 2 ^ 30
  tall = subst⁻¹ (λ (z : ℤ). nat_abs z ≤ 2 ^ 30) again (height low high Z l h inside)

pub blended-requires : goal.blended-requires
blended-requires c =
    let a = c.args.self in
    let p = c.args.p in
    let n = c.requires in (
      record {
        tall0 = tall _ a.v0 a.v3 p.z n.near0 n.near3 p.upwards c.raised-t0.ensures;
        tall1 = tall _ a.v1 a.v4 p.z n.near1 n.near4 p.upwards c.raised-t1.ensures;
        tall2 = tall _ a.v2 a.v5 p.z n.near2 n.near5 p.upwards c.raised-t2.ensures;
      },
      (p.ordered, p.across),
    )
