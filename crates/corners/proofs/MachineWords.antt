-- A signed word is its bits; the machine reads the number back from them, and an operation whose result fits writes bits that read as that result.
-- So a whole expression reads as the expression of its numbers. Assumes nothing.
use mathlib.Core.Path.{◌≡◌, ◌∙◌, ap, ap₂, subst⁻¹}
use Prim.Native.Nat.{ℕ, ◌+◌, ◌*◌, ◌^◌, ◌≤◌, ◌<◌}
use native.Mathlib.Nat.{mul-le-mul}
use native.Mathlib.Omega.{arith}
use lib.Dec.{lit≤}
use lib.IntN.{ℤ, pos, negsuc, nat_abs, ◌+ℤ◌, ◌-ℤ◌, ◌*ℤ◌}
use lib.Signed.{mag}
use mir.Syntax.{w64}
use mir.Val.{SFits, to_z, of_z}
use mir.ValLaws.{to_z-of_z, to_z_pos}
use Rattle.corners.specs.Inner.{mix, Heights, blend}
use Rattle.corners.proofs.Differences.{Is, add, mul, sub, mul_right, bound}
use Rattle.corners.proofs.Offsets.{Offset, offset, blend_bound}

-- the word n reads as z
pub record Reads (n : ℕ) (z : ℤ) : Type 0 where
  pub reads : to_z w64 n ≡ z

-- what a number reads as that fits: as itself
pub back : (z : ℤ) → mag z < 2 ^ 63 → to_z w64 (of_z w64 z) ≡ z
back z small = to_z-of_z w64 z (record { sfits = small })

pub word : (z : ℤ) → SFits w64 z → Reads (of_z w64 z) z
word z fits = record { reads = to_z-of_z w64 z fits }

-- an unsigned number that was widened
pub natural : (n : ℕ) → n ≤ 2 ^ 21 → Reads n (pos n)
natural n small = record { reads = to_z_pos w64 n (omega arith) }

-- an operation on two words: what the machine asks, and what it gives
pub record Step (f : ℤ → ℤ → ℤ) (m n : ℕ) (z : ℤ) : Type 0 where
  pub asks : SFits w64 (f (to_z w64 m) (to_z w64 n))
  pub gives : Reads (of_z w64 (f (to_z w64 m) (to_z w64 n))) z

pub step : (f : ℤ → ℤ → ℤ) {m n : ℕ} {z w : ℤ} → Reads m z → Reads n w → SFits w64 (f z w) → Step f m n (f z w)
step f {m} {n} h k fits =
    let same = ap₂ f h.reads k.reads in
    let asked = subst⁻¹ (SFits w64) same fits in
    record { asks = asked; gives = record { reads = to_z-of_z w64 (f (to_z w64 m) (to_z w64 n)) asked ∙ same } }

abbrev pub times : ℤ → ℤ → ℤ
times z w = z *ℤ w

abbrev pub minus : ℤ → ℤ → ℤ
minus z w = z -ℤ w

abbrev pub plus : ℤ → ℤ → ℤ
plus z w = z +ℤ w

-- ---- what fits
pub magnitude : (z : ℤ) → nat_abs z < 2 ^ 63 → SFits w64 z
magnitude (pos n) h = record { sfits = h }
magnitude (negsuc n) h = record { sfits = omega arith }

fits : {z : ℤ} {a b : ℕ} → Is z a b → a < 2 ^ 63 → b < 2 ^ 63 → SFits w64 z
fits {z} {a} {b} h f g = magnitude z (omega (arith, bound 9223372036854775807 h (omega arith) (omega arith)))

pub kept : (k : ℕ) {r z : ℤ} → r ≡ z → nat_abs z ≤ k → k ≤ 2 ^ 51 → to_z w64 (of_z w64 r) ≡ z
kept k {r} {z} found small room = ap (λ (y : ℤ). to_z w64 (of_z w64 y)) found ∙ to_z-of_z w64 z (magnitude z (omega arith))

-- ---- the expression 2^21·z + (w - z)·n, of numbers from -k to k
abbrev bits : ℤ → ℕ
bits z = of_z w64 z

-- the bits that an operation writes
abbrev on : (ℤ → ℤ → ℤ) → ℕ → ℕ → ℕ
on f m n = of_z w64 (f (to_z w64 m) (to_z w64 n))

module _ (k : ℕ) (z w : ℤ) (room : k ≤ 2 ^ 30) (small_z : nat_abs z ≤ k) (small_w : nat_abs w ≤ k) where
  o : Offset k z
  o = offset k z small_z

  p : Offset k w
  p = offset k w small_w

  from : Reads (bits z) z
  from = word z (magnitude z (omega arith))

  to : Reads (bits w) w
  to = word w (magnitude w (omega arith))

  pub first : Step times (2 ^ 21) (bits z) (pos (2 ^ 21) *ℤ z)
  first = step times (natural (2 ^ 21) (lit≤ tt)) from (fits (mul o.is (2 ^ 21)) (omega (arith, o.small)) (omega arith))

  pub apart : Step minus (bits w) (bits z) (w -ℤ z)
  apart = step minus to from (fits (sub p.is o.is) (omega (arith, p.small)) (omega (arith, o.small)))

  module _ (n : ℕ) (inside : n ≤ 2 ^ 21) where
    upper : n * (p.up + k) ≤ 2 ^ 53
    upper = mul-le-mul {m₂ = 2 ^ 32} inside (omega (arith, p.small))

    lower : n * (k + o.up) ≤ 2 ^ 53
    lower = mul-le-mul {m₂ = 2 ^ 32} inside (omega (arith, o.small))

    pub part : Step times (on minus (bits w) (bits z)) n ((w -ℤ z) *ℤ pos n)
    part =
        step times apart.gives (natural n inside)
        (fits (mul_right (sub p.is o.is) n) (omega (arith, upper)) (omega (arith, lower)))

    pub both : Step plus (on times (2 ^ 21) (bits z)) (on times (on minus (bits w) (bits z)) n) (mix z w n)
    both =
        step plus first.gives part.gives
        (fits (add (mul o.is (2 ^ 21)) (mul_right (sub p.is o.is) n)) (omega (arith, upper, o.small)) (omega (arith, lower)))

-- one part more
module _ (t0 t1 t2 : ℤ) (X Y : ℕ) (tall : Heights t0 t1 t2) (ordered : Y ≤ X) (inside : X ≤ 2 ^ 21) where
  pub whole : Step plus
      (on plus (on times (2 ^ 21) (bits t0)) (on times (on minus (bits t1) (bits t0)) X))
      (on times (on minus (bits t2) (bits t1)) Y)
      (blend t0 t1 t2 X Y)
  whole =
      step plus
      (both (2 ^ 30) t0 t1 (lit≤ tt) tall.tall0 tall.tall1 X inside).gives
      (part (2 ^ 30) t1 t2 (lit≤ tt) tall.tall1 tall.tall2 Y (omega arith)).gives
      (magnitude _ (omega (arith, blend_bound t0 t1 t2 X Y tall ordered inside)))
