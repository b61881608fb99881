-- A whole number up to 2^53 is an f64 without loss, a product with 2^-42 is its quotient by 2^42 with all its digits, and an f64 has one way to be
-- written: so the answer is that quotient and no other f64 is. Assumes nothing.
use mathlib.Core.Path.{◌≡◌, refl, sym, ap, ◌∙◌, subst}
use mathlib.Core.Bool.{Bool, true, false, cond}
use Prim.Native.Nat.{ℕ, ◌+◌, ◌-◌, ◌*◌, ◌/◌, ◌^◌, ◌≤◌, ◌<◌}
use native.Mathlib.Nat.{lt_of_lt_of_le, mul_assoc, mul_right_comm, mul-pos}
use native.Mathlib.Omega.{arith}
use lib.Dec.{T, lit<, lit≤, le→leb, lt→ltb}
use lib.Pow.{shl_lt}
use lib.IntN.{ℤ, pos, negsuc, nat_abs}
use lib.Ieee.{Float, nan, inf, fin, binary64, up, down, size, top, hid, unlike, round, mul, of_int, in_float, of_bits, to_bits, fits}
use lib.Ieee.Exact.{HasValue, round_exact}
use lib.Ieee.Back.{round_whole}
use lib.Ieee.Bits.{of_bits-to_bits}
use lib.Ieee.Fits.{down_pos, round-fits}
use lib.Ieee.Nearest.{div_same}
use lib.Ieee.Scale.{round_same}
use Rattle.corners.specs.CornerPoints.{negative, coordinate}

-- ---- the product
pub in_float_lem : (z : ℤ) → nat_abs z ≤ 2 ^ 51 → T (in_float binary64 z)
unfolding in_float
in_float_lem (pos n) small = le→leb n (2 ^ 53) (omega arith)
in_float_lem (negsuc n) small = lt→ltb n (2 ^ 53) (omega arith)

plus_sign : (s : Bool) → unlike s false ≡ s
plus_sign true = refl
plus_sign false = refl

product_of : (x : Float) (s : Bool) (n : ℕ) → HasValue x s n 1 → mul binary64 x (fin false 1 (negsuc 41)) ≡ round binary64 s n (2 ^ 42)
unfolding mul
product_of nan s n v = absurd v
product_of (inf u) s n v = absurd v
product_of (fin u m e) s n v =
    ap (λ (b : Bool). round binary64 b (m * up e * 1) (down e * 2 ^ 42)) (plus_sign u ∙ v.0)
    ∙ round_same binary64 s (m * up e * 1) (down e * 2 ^ 42) n (2 ^ 42) (mul-pos (down_pos e) (lit< tt)) (lit< tt)
    (ap (λ (k : ℕ). k * 2 ^ 42) v.1 ∙ mul_assoc n (down e) (2 ^ 42))

of_int_round : (z : ℤ) → of_int binary64 z ≡ round binary64 (negative z) (nat_abs z) 1
unfolding of_int
of_int_round (pos n) = refl
of_int_round (negsuc n) = refl

pub product : (z : ℤ) → nat_abs z ≤ 2 ^ 51 → mul binary64 (of_int binary64 z) (fin false 1 (negsuc 41)) ≡ coordinate z
unfolding coordinate
product z small = product_of (of_int binary64 z) (negative z) (nat_abs z)
    (subst (λ (x : Float). HasValue x (negative z) (nat_abs z) 1) (sym (of_int_round z)) (round_whole binary64 (negative z) (nat_abs z) (omega arith)))

-- ---- the value
lifted : (n : ℕ) → n * 2 ^ 1074 ≡ n * 2 ^ 1032 * 2 ^ 42
lifted n = sym (mul_assoc n (2 ^ 1032) (2 ^ 42))

pub exact : (z : ℤ) → nat_abs z ≤ 2 ^ 51 → HasValue (coordinate z) (negative z) (nat_abs z) (2 ^ 42)
unfolding coordinate
exact z small =
    let digits : nat_abs z < 2 ^ 53 = omega arith in
    round_exact binary64 (negative z) (nat_abs z) (2 ^ 42) (nat_abs z) 1032 (lit< tt) digits
    (lt_of_lt_of_le (shl_lt 53 1032 digits) (lit≤ tt)) (lifted (nat_abs z))

pub coordinate_fits : (z : ℤ) → T (fits binary64 (coordinate z))
unfolding coordinate
coordinate_fits z = round-fits binary64 (negative z) (nat_abs z) (2 ^ 42)

-- ---- no other: the bits of an f64 go by its sign and by its size in units of the smallest one
abbrev bits_of : Bool → ℕ → ℕ
bits_of s n = cond s (top binary64) 0 + (size n - 53) * hid binary64 + n / 2 ^ (size n - 53)

bits : (x : Float) (s : Bool) (a c : ℕ) → 0 < c → HasValue x s a c → to_bits binary64 x ≡ bits_of s (a * 2 ^ 1074 / c)
unfolding to_bits
bits nan s a c p v = absurd v
bits (inf u) s a c p v = absurd v
bits (fin u m e) s a c p v =
    ap (λ (b : Bool). bits_of b (m * up e * 2 ^ 1074 / down e)) v.0
    ∙ ap (bits_of s) (div_same (m * up e * 2 ^ 1074) (down e) (a * 2 ^ 1074) c (down_pos e) p
    (mul_right_comm (m * up e) (2 ^ 1074) c ∙ ap (λ (k : ℕ). k * 2 ^ 1074) v.1 ∙ mul_right_comm a (down e) (2 ^ 1074)))

pub unique : (x y : Float) (s : Bool) (a c : ℕ) → 0 < c → T (fits binary64 x) → T (fits binary64 y) → HasValue x s a c → HasValue y s a c → x ≡ y
unique x y s a c p f g v w =
    sym (of_bits-to_bits binary64 x f) ∙ ap (of_bits binary64) (bits x s a c p v ∙ sym (bits y s a c p w)) ∙ of_bits-to_bits binary64 y g
