-- At a corner of the root one of the weights is the whole and the others are none, so Q is 2^42 times that corner's number; and a whole number over
-- 1 rounds as 2^42 times it over 2^42 does. Assumes nothing.
use mathlib.Core.Path.{◌≡◌, refl, ap₂, ◌∙◌}
use mathlib.Core.Bool.{Bool, true, false}
use Prim.Native.Nat.{ℕ, zero, suc, ◌+◌, ◌*◌, ◌^◌, ◌<◌}
use native.Mathlib.Nat.{zero-lt-suc, mul-pos}
use native.Mathlib.Omega.{arith}
use lib.Dec.{lit<}
use lib.IntN.{ℤ, pos, negsuc, neg_ℤ, nat_abs, ◌*ℤ◌}
use lib.Ieee.{binary64, round, of_int}
use lib.Ieee.Scale.{round_same}
use Rattle.corners.specs.CornerPoints.{t, q, negative, coordinate}
use Rattle.corners.proofs.Differences.{Is, add, mul, sub, mul_right, rename, same}

-- ---- Q
upper : ℤ → ℕ
upper (pos n) = n
upper (negsuc n) = 0

lower : ℤ → ℕ
lower (pos n) = 0
lower (negsuc n) = suc n

own : (z : ℤ) → Is z (upper z) (lower z)
unfolding upper lower
own (pos n) = record { is = omega arith }
own (negsuc n) = record { is = omega arith }

module _ (v : ℕ → ℤ) (X Y Z : ℕ) where
  -- Tj is high j - low j
  abbrev high : ℕ → ℕ
  high j = 2097152 * upper (v j) + Z * (upper (v (j + 3)) + lower (v j))

  abbrev low : ℕ → ℕ
  low j = 2097152 * lower (v j) + Z * (lower (v (j + 3)) + upper (v j))

  height_is : (j : ℕ) → Is (t v Z j) (high j) (low j)
  height_is j = add (mul (own (v j)) 2097152) (mul_right (sub (own (v (j + 3))) (own (v j))) Z)

  -- Q is 2^42 times corner i's number where the weights say so
  weighed : (i : ℕ)
      → 2097152 * high 0 + X * (high 1 + low 0) + Y * (high 2 + low 1) + 4398046511104 * lower (v i)
      ≡ 4398046511104 * upper (v i) + (2097152 * low 0 + X * (low 1 + high 0) + Y * (low 2 + high 1))
      → q v X Y Z ≡ pos (2 ^ 42) *ℤ v i
  weighed i balance =
      same
      (rename (4398046511104 * upper (v i)) (4398046511104 * lower (v i))
      (add (add (mul (height_is 0) 2097152) (mul_right (sub (height_is 1) (height_is 0)) X)) (mul_right (sub (height_is 2) (height_is 1)) Y))
      balance)
      (mul (own (v i)) 4398046511104)

module _ (v : ℕ → ℤ) where
  pub at_0 : q v 0 0 0 ≡ pos (2 ^ 42) *ℤ v 0
  at_0 = weighed v 0 0 0 0 (omega arith)

  pub at_1 : q v 2097152 0 0 ≡ pos (2 ^ 42) *ℤ v 1
  at_1 = weighed v 2097152 0 0 1 (omega arith)

  pub at_2 : q v 2097152 2097152 0 ≡ pos (2 ^ 42) *ℤ v 2
  at_2 = weighed v 2097152 2097152 0 2 (omega arith)

  pub at_3 : q v 0 0 2097152 ≡ pos (2 ^ 42) *ℤ v 3
  at_3 = weighed v 0 0 2097152 3 (omega arith)

  pub at_4 : q v 2097152 0 2097152 ≡ pos (2 ^ 42) *ℤ v 4
  at_4 = weighed v 2097152 0 2097152 4 (omega arith)

  pub at_5 : q v 2097152 2097152 2097152 ≡ pos (2 ^ 42) *ℤ v 5
  at_5 = weighed v 2097152 2097152 2097152 5 (omega arith)

-- ---- the f64
negated : (n : ℕ) → 0 < n → (negative (neg_ℤ (pos n)) ≡ true) × (nat_abs (neg_ℤ (pos n)) ≡ n)
negated zero h = absurd (omega arith)
negated (suc n) h = (refl, refl)

pub whole : (v : ℤ) → coordinate (pos (2 ^ 42) *ℤ v) ≡ of_int binary64 v
unfolding coordinate of_int
whole (pos n) = round_same binary64 false (4398046511104 * n) (2 ^ 42) n 1 (lit< tt) (lit< tt) (omega arith)
whole (negsuc n) =
    let minus = negated (4398046511104 * suc n) (mul-pos (lit< tt) (zero-lt-suc n)) in
    ap₂ (λ (s : Bool) (k : ℕ). round binary64 s k (2 ^ 42)) minus.0 minus.1
    ∙ round_same binary64 true (4398046511104 * suc n) (2 ^ 42) (suc n) 1 (lit< tt) (lit< tt) (omega arith)
