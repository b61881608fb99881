-- A root that passes the test has each of its eighteen numbers from -512 to 512, whichever coordinate one takes. Assumes nothing.
use mathlib.Core.Path.{◌≡◌, subst⁻¹}
use mathlib.Core.Bool.{true, and-eq-true_iff}
use Prim.Native.Nat.{◌≤◌}
use lib.IntN.{ℤ, nat_abs}
use Rattle.corners.specs.declared.Corner.{Corner}
use Rattle.corners.specs.declared.Root.{Root}
use Rattle.corners.specs.CornerPoints.{corner_within, root_within}
use Rattle.corners.specs.declared.work.Axis.{Axis}
use Rattle.corners.specs.Inner.{Near, AxisOf}
use Rattle.corners.proofs.Offsets.{near}

pub record NearCorner (c : Corner) : Type 0 where
  pub along_x : nat_abs c.x ≤ 512
  pub along_y : nat_abs c.y ≤ 512
  pub along_z : nat_abs c.z ≤ 512

corner_near : (c : Corner) → corner_within c ≡ true → NearCorner c
corner_near c h =
    let rest = (and-eq-true_iff _ _).0 h in
    let last = (and-eq-true_iff _ _).0 rest.1 in
    record { along_x = near c.x rest.0; along_y = near c.y last.0; along_z = near c.z last.1 }

record NearRoot (r : Root) : Type 0 where
  c0 : NearCorner r.v0
  c1 : NearCorner r.v1
  c2 : NearCorner r.v2
  c3 : NearCorner r.v3
  c4 : NearCorner r.v4
  c5 : NearCorner r.v5

root_near : (r : Root) → root_within r ≡ true → NearRoot r
root_near r h =
    let t1 = (and-eq-true_iff _ _).0 h in
    let t2 = (and-eq-true_iff _ _).0 t1.1 in
    let t3 = (and-eq-true_iff _ _).0 t2.1 in
    let t4 = (and-eq-true_iff _ _).0 t3.1 in
    let t5 = (and-eq-true_iff _ _).0 t4.1 in
    record {
      c0 = corner_near r.v0 t1.0;
      c1 = corner_near r.v1 t2.0;
      c2 = corner_near r.v2 t3.0;
      c3 = corner_near r.v3 t4.0;
      c4 = corner_near r.v4 t5.0;
      c5 = corner_near r.v5 t5.1;
    }

-- a coordinate: whichever number of a corner it is, it is small in a corner that is near
pub record Coordinate (of : Corner → ℤ) : Type 0 where
  pub small : (v : Corner) → NearCorner v → nat_abs (of v) ≤ 512

pub in_x : Coordinate (λ v. v.x)
in_x = record { small = λ v n. n.along_x }

pub in_y : Coordinate (λ v. v.y)
in_y = record { small = λ v n. n.along_y }

pub in_z : Coordinate (λ v. v.z)
in_z = record { small = λ v n. n.along_z }

-- the axis of a coordinate
abbrev pub axis : (Corner → ℤ) → Root → Axis
axis of r = record { v0 = of r.v0; v1 = of r.v1; v2 = of r.v2; v3 = of r.v3; v4 = of r.v4; v5 = of r.v5 }

pub near_axis : (of : Corner → ℤ) → Coordinate of → (r : Root) → root_within r ≡ true → Near (axis of r)
near_axis of o r h =
    let n = root_near r h in
    record {
      near0 = o.small r.v0 n.c0;
      near1 = o.small r.v1 n.c1;
      near2 = o.small r.v2 n.c2;
      near3 = o.small r.v3 n.c3;
      near4 = o.small r.v4 n.c4;
      near5 = o.small r.v5 n.c5;
    }

-- the axis that the code found, by a closure that gives that coordinate
pub near_found : {post : Corner → ℤ → Type 0} {of : Corner → ℤ} {r : Root} {a : Axis} → Coordinate of → root_within r ≡ true → AxisOf post r a
    → ((v : Corner) (n : ℤ) → post v n → n ≡ of v) → Near a
near_found {post} {of} {r} {a} o near h gives =
    subst⁻¹ Near (λ i. record {
      v0 = gives r.v0 a.v0 h.of0 i;
      v1 = gives r.v1 a.v1 h.of1 i;
      v2 = gives r.v2 a.v2 h.of2 i;
      v3 = gives r.v3 a.v3 h.of3 i;
      v4 = gives r.v4 a.v4 h.of4 i;
      v5 = gives r.v5 a.v5 h.of5 i;
    }) (near_axis of o r near)
