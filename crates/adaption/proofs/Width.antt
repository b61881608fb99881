-- A child number has few bits: 2^bits children, and the code's shifts are the definition's products. Assumes nothing.
use mathlib.Core.Path.{◌≡◌, ap, ◌∙◌}
use Prim.Native.Nat.{ℕ, ◌*◌, ◌%◌, ◌^◌, ◌≤◌, ◌<◌}
use native.Mathlib.Nat.{one-mul, mod-eq_of_lt, lt_of_le_of_lt}
use native.Mathlib.Omega.{arith}
use lib.Dec.{lit<}
use lib.Pow.{pow_mono}

pub few_children : (b : ℕ) → b < 8 → 2 ^ b ≤ 2 ^ 7
few_children b small = pow_mono {i = b} {j = 7} (omega arith)

pub one_shifted : (b : ℕ) → b < 8 → 1 * 2 ^ b % 2 ^ 64 ≡ 2 ^ b
one_shifted b small = ap (λ (k : ℕ). k % 2 ^ 64) (one-mul (2 ^ b)) ∙ mod-eq_of_lt (lt_of_le_of_lt (few_children b small) (lit< tt))
