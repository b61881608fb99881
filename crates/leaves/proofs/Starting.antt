-- How many leaves a uniform start has, as the code's shifts find it. Assumes nothing.
use mathlib.Core.Path.{◌≡◌, ap, sym}
use Prim.Native.Nat.{ℕ, ◌*◌, ◌/◌, ◌%◌, ◌^◌, ◌≤◌, ◌<◌}
use native.Mathlib.Nat.{div-lt_iff_lt-mul, mod-eq_of_lt, mul-le-mul_right, div-mul-le_self, le_trans}
use native.Mathlib.Omega.{arith}
use lib.Pow.{pow_pos}
use Rattle.tree.proofs.Digits.{power_bits}

module _ (k l : ℕ) where
  -- how many leaves, as the code has it
  pub leaves_shifted : k * 8 ^ l ≡ k * 2 ^ (3 * l)
  leaves_shifted = ap (λ (w : ℕ). k * w) (power_bits 3 l)

  pub too_many : (m : ℕ) → m / 2 ^ (3 * l) < k → m < k * 8 ^ l
  too_many m over = rw leaves_shifted ((div-lt_iff_lt-mul (pow_pos (3 * l))).0 over)

  pub few_enough : (m : ℕ) → k ≤ m / 2 ^ (3 * l) → k * 8 ^ l ≤ m
  few_enough m under = rw leaves_shifted (le_trans (mul-le-mul_right (2 ^ (3 * l)) under) (div-mul-le_self m (2 ^ (3 * l))))

  pub count_exact : k * 8 ^ l ≤ 1048576 → k * 2 ^ (3 * l) % 2 ^ 64 ≡ k * 8 ^ l
  count_exact under = rw (sym leaves_shifted) (mod-eq_of_lt (omega (arith, under)))
