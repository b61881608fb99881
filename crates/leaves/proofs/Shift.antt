-- The code's shifts are the powers of the definition, where b bits a level for L levels stay below 64. Assumes nothing.
use mathlib.Core.Path.{◌≡◌, ap, ◌∙◌, sym}
use Prim.Native.Nat.{ℕ, ◌+◌, ◌-◌, ◌*◌, ◌/◌, ◌%◌, ◌^◌, ◌≤◌, ◌<◌}
use native.Mathlib.Nat.{mul-le-mul_left, mul-le-mul_right, mod-eq_of_lt, div-eq_of_lt, div-lt_iff_lt-mul, mul-add, add-sub_of_le}
use native.Mathlib.Omega.{arith}
use lib.Pow.{pow_pos, pow_mono, pow-add}
use Rattle.tree.proofs.Digits.{power_bits, shifted_power}

module _ (b L : ℕ) (narrow : b * L ≤ 63) where
  pub bits_le : (l : ℕ) → l ≤ L → b * l ≤ 63
  bits_le l shallow = omega (arith, mul-le-mul_left b shallow)

  pub bits_left : (l : ℕ) → b * (L - l) ≤ 63
  bits_left l = let fewer : L - l ≤ L = omega arith in bits_le (L - l) fewer

  -- ---- a position against the number of elements of its level
  pub beyond : (p l : ℕ) → (p / 2 ^ (b * l) ≡ 0 → ⊥) → (2 ^ b) ^ l ≤ p
  beyond p l some = rw (power_bits b l) (le_of (λ less. some (div-eq_of_lt less)))
    where
      le_of : (p < 2 ^ (b * l) → ⊥) → 2 ^ (b * l) ≤ p
      le_of never = omega arith

  pub within : (p l : ℕ) → p / 2 ^ (b * l) ≡ 0 → p < (2 ^ b) ^ l
  within p l none =
      let below : p / 2 ^ (b * l) < 1 = omega arith in
      rw (power_bits b l) (omega (arith, (div-lt_iff_lt-mul (pow_pos (b * l))).0 below))

  -- ---- the smallest cells of a leaf
  -- as many as fit into the root
  pub cells_le : (q l : ℕ) → l ≤ L → q ≤ (2 ^ b) ^ l → q * 2 ^ (b * (L - l)) ≤ 2 ^ (b * L)
  cells_le q l shallow fits =
      let whole : b * l + b * (L - l) ≡ b * L = sym (mul-add b l (L - l)) ∙ ap (λ (m : ℕ). b * m) (add-sub_of_le shallow) in
      let all : 2 ^ (b * l) * 2 ^ (b * (L - l)) ≡ 2 ^ (b * L) = sym (pow-add 2 (b * l) (b * (L - l))) ∙ ap (λ (m : ℕ). 2 ^ m) whole in
      omega (arith, mul-le-mul_right (2 ^ (b * (L - l))) (rw (power_bits b l) at fits))

  pub shifted : (q l : ℕ) → l ≤ L → q ≤ (2 ^ b) ^ l → q * 2 ^ (b * (L - l)) % 2 ^ 64 ≡ q * (2 ^ b) ^ (L - l)
  shifted q l shallow fits =
      let small : 2 ^ (b * L) ≤ 2 ^ 63 = pow_mono narrow in
      mod-eq_of_lt (omega (arith, cells_le q l shallow fits)) ∙ ap (λ (m : ℕ). q * m) (sym (power_bits b (L - l)))

  pub whole_root : 1 * 2 ^ (b * L) % 2 ^ 64 ≡ (2 ^ b) ^ L
  whole_root = shifted_power b L (omega arith)

  -- a root's smallest cells fit a word
  pub root_cells : (2 ^ b) ^ L ≤ 2 ^ 63
  root_cells = rw (power_bits b L) (pow_mono narrow)

  pub position_lt : (p l : ℕ) → l ≤ L → p < (2 ^ b) ^ l → p < 2 ^ 63
  position_lt p l shallow below =
      let small : 2 ^ (b * l) ≤ 2 ^ 63 = pow_mono (bits_le l shallow) in
      omega (arith, rw (power_bits b l) at below)
