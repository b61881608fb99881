-- Every number of the call lies between -k and k, since it is a mean of numbers that do: moved up by k they are natural numbers, and so is
-- their mean. Assumes nothing.
use mathlib.Core.Path.{◌≡◌, refl, sym, ap, ◌∙◌}
use mathlib.Core.Bool.{true, and-true}
use Prim.Native.Nat.{ℕ, suc, ◌+◌, ◌-◌, ◌*◌, ◌^◌, ◌≤◌}
use native.Mathlib.Nat.{mul-add, add-mul, mul-le-mul_left}
use native.Mathlib.Omega.{arith}
use lib.Dec.{leb}
use lib.IntN.{ℤ, pos, negsuc, nat_abs}
use borrow.Author.Tests.{leb-true}
use Rattle.prism.specs.Points.{Corner, InRoot}
use Rattle.corners.specs.declared.work.Axis.{Axis}
use Rattle.corners.specs.declared.local.Local.{Local}
use Rattle.corners.specs.CornerPoints.{within, q}
use Rattle.corners.specs.Inner.{along, Near, mix, Heights, blend, corner_of}
use Rattle.corners.proofs.Differences.{Is, add, mul, sub, mul_right, rename, bound}

-- z is from -k to k: moved up by k it is `up`
pub record Offset (k : ℕ) (z : ℤ) : Type 0 where
  pub up : ℕ
  pub is : Is z up k
  pub small : up ≤ k + k

pub offset_bound : {k : ℕ} {z : ℤ} → Offset k z → nat_abs z ≤ k
offset_bound {k} o = bound k o.is o.small (omega arith)

pub offset : (k : ℕ) (z : ℤ) → nat_abs z ≤ k → Offset k z
offset k (pos n) h = record { up = n + k; is = record { is = refl }; small = omega arith }
offset k (negsuc n) h = record { up = k - suc n; is = record { is = omega arith }; small = omega arith }

-- a number of the root
pub near : (v : ℤ) → within v ≡ true → nat_abs v ≤ 512
near (pos n) h = leb-true n 512 h
near (negsuc n) h = omega (arith, leb-true n 511 (sym (and-true (leb n 511)) ∙ h))

-- ---- T: (2^21 - Z) parts of the lower and Z parts of the upper
abbrev edge : ℕ
edge = 2097152

abbrev K : ℕ
K = 1073741824

two_parts : (Z E s u : ℕ) → Z + E ≡ edge → edge * s + Z * (u + 512) + K ≡ E * s + Z * u + (edge * 512 + Z * (512 + s))
two_parts Z E s u whole =
    omega (arith, ap (λ (k : ℕ). k * s) whole, add-mul Z E s, mul-add Z u 512, mul-add Z 512 s)

two_small : (Z E s u : ℕ) → Z + E ≡ edge → s ≤ 1024 → u ≤ 1024 → E * s + Z * u ≤ 2147483648
two_small Z E s u whole a b = omega (arith, mul-le-mul_left E a, mul-le-mul_left Z b)

pub height : (low high : ℤ) (Z : ℕ) → nat_abs low ≤ 512 → nat_abs high ≤ 512 → Z ≤ 2 ^ 21 → nat_abs (mix low high Z) ≤ 2 ^ 30
height low high Z near_low near_high inside =
    let l = offset 512 low near_low in
    let h = offset 512 high near_high in
    let E = edge - Z in
    let whole : Z + E ≡ edge = omega arith in
    let part = E * l.up + Z * h.up in
    offset_bound (record {
      up = part;
      is = rename part K (add (mul l.is edge) (mul_right (sub h.is l.is) Z)) (two_parts Z E l.up h.up whole);
      small = two_small Z E l.up h.up whole l.small h.small;
    })

-- ---- Q: (2^21 - X) parts of T0, X - Y of T1 and Y of T2
three_parts : (Y D E a b c : ℕ) → Y + D + E ≡ edge
    → edge * a + (Y + D) * (b + K) + Y * (c + K) + 2251799813685248
    ≡ E * a + D * b + Y * c + (edge * K + (Y + D) * (K + a) + Y * (K + b))
three_parts Y D E a b c whole =
    omega (arith, ap (λ (k : ℕ). k * a) whole, add-mul (Y + D) E a, add-mul Y D a, mul-add (Y + D) b K, add-mul Y D b, mul-add Y c K, mul-add (Y + D) K a, mul-add Y K b)

three_small : (Y D E a b c : ℕ) → Y + D + E ≡ edge → a ≤ 2147483648 → b ≤ 2147483648 → c ≤ 2147483648
    → E * a + D * b + Y * c ≤ 4503599627370496
three_small Y D E a b c whole p q r = omega (arith, mul-le-mul_left E p, mul-le-mul_left D q, mul-le-mul_left Y r)

mean : (t0 t1 t2 : ℤ) (Y D E : ℕ) → Heights t0 t1 t2 → Y + D + E ≡ edge → nat_abs (blend t0 t1 t2 (Y + D) Y) ≤ 2 ^ 51
mean t0 t1 t2 Y D E tall whole =
    let o0 = offset K t0 tall.tall0 in
    let o1 = offset K t1 tall.tall1 in
    let o2 = offset K t2 tall.tall2 in
    let part = E * o0.up + D * o1.up + Y * o2.up in
    offset_bound (record {
      up = part;
      is = rename part 2251799813685248
          (add (add (mul o0.is edge) (mul_right (sub o1.is o0.is) (Y + D))) (mul_right (sub o2.is o1.is) Y))
          (three_parts Y D E o0.up o1.up o2.up whole);
      small = three_small Y D E o0.up o1.up o2.up whole o0.small o1.small o2.small;
    })

pub blend_bound : (t0 t1 t2 : ℤ) (X Y : ℕ) → Heights t0 t1 t2 → Y ≤ X → X ≤ 2 ^ 21 → nat_abs (blend t0 t1 t2 X Y) ≤ 2 ^ 51
blend_bound t0 t1 t2 X Y tall ordered inside =
    let back : Y + (X - Y) ≡ X = omega arith in
    rw back at (mean t0 t1 t2 Y (X - Y) (edge - X) tall (omega arith))

-- one coordinate of a point within the root
pub axis_bound : (a : Axis) (c : Corner) → Near a → InRoot 21 c → nat_abs (q (along a) c.plan.x c.plan.y c.height) ≤ 2 ^ 51
axis_bound a c n inside =
    blend_bound (mix a.v0 a.v3 c.height) (mix a.v1 a.v4 c.height) (mix a.v2 a.v5 c.height) c.plan.x c.plan.y
    (record {
      tall0 = height a.v0 a.v3 c.height n.near0 n.near3 inside.upwards;
      tall1 = height a.v1 a.v4 c.height n.near1 n.near4 inside.upwards;
      tall2 = height a.v2 a.v5 c.height n.near2 n.near5 inside.upwards;
    })
    inside.in_plan.ordered inside.in_plan.across

-- a local corner lies within the root
pub in_root : (p : Local) → InRoot 21 (corner_of p)
in_root p = record { in_plan = record { ordered = p.ordered; across = p.across }; upwards = p.upwards }
