-- One digit more in base n and one digit less: the arithmetic under every position. `n * q + i` with i below n has the quotient
-- q and the rest i. Assumes nothing.
use Rattle.std.proofs.Common.{◌≡◌, ℕ, zero, suc, ◌+◌, ◌-◌, ◌*◌, ◌/◌, ◌%◌, ◌^◌, ◌<◌, ◌≤◌, ◌↔◌, sym, ap, ◌∙◌, add-zero, mul-le-mul_right, mod-eq_of_lt, mul_comm, div-lt_iff_lt-mul, mul-le-mul_left, one-mul, pow-suc, mul-zero, mul-suc, div-mul-le_self, arith, pow-add}
use native.Mathlib.Nat.{pow-zero, one-le-pow}
use native.Mathlib.Nat.{mul-add-div, mul-add-mod_self_left, div-eq_of_lt, lt-div-mul-add, div-eq_of_lt-le}
use lib.Pow.{pow-lt}

-- the code's power: b bits a level
pub power_bits : (b l : ℕ) → (2 ^ b) ^ l ≡ 2 ^ (b * l)
power_bits b zero = pow-zero (2 ^ b) ∙ sym (ap (λ (k : ℕ). 2 ^ k) (mul-zero b))
power_bits b (suc l) =
    pow-suc (2 ^ b) l
    ∙ ap (λ (k : ℕ). k * 2 ^ b) (power_bits b l)
    ∙ sym (ap (λ (k : ℕ). 2 ^ k) (mul-suc b l) ∙ pow-add 2 (b * l) b)

-- a 1 shifted by b bits a level counts the elements of the level, where 64 bits hold it
pub shifted_power : (b l : ℕ) → b * l < 64 → 1 * 2 ^ (b * l) % 2 ^ 64 ≡ (2 ^ b) ^ l
shifted_power b l fits =
    ap (λ (k : ℕ). k % 2 ^ 64) (one-mul (2 ^ (b * l)))
    ∙ mod-eq_of_lt (pow-lt fits)
    ∙ sym (power_bits b l)

module _ (n : ℕ) where
  pub digit_div : (q i : ℕ) → i < n → (n * q + i) / n ≡ q
  digit_div q i small =
      let positive : 0 < n = omega arith in
      mul-add-div positive q i ∙ ap (λ (r : ℕ). q + r) (div-eq_of_lt small) ∙ add-zero q

  pub digit_mod : (q i : ℕ) → i < n → (n * q + i) % n ≡ i
  digit_mod q i small = mul-add-mod_self_left n q i ∙ mod-eq_of_lt small

  -- one digit more stays below one power more
  pub digit_lt : (q i l : ℕ) → q < n ^ l → i < n → n * q + i < n ^ suc l
  digit_lt q i l below small =
      rw (pow-suc n l, mul_comm (n ^ l) n)
      (let whole : n * suc q ≤ n * n ^ l = mul-le-mul_left n below in omega arith)

  pub power_pos : (l : ℕ) → 0 < n → 0 < n ^ l
  power_pos l positive = one-le-pow l n positive

  -- k digits more stay below k powers more
  pub digits_lt : (q i l k : ℕ) → q < n ^ l → i < n ^ k → q * n ^ k + i < n ^ (l + k)
  digits_lt q i l k below small =
      rw (pow-add n l k)
      (let whole : suc q * n ^ k ≤ n ^ l * n ^ k = mul-le-mul_right (n ^ k) below in omega arith)

  -- one digit less
  pub div_lt : (p l : ℕ) → 0 < n → p < n ^ suc l → p / n < n ^ l
  div_lt p l positive below = (div-lt_iff_lt-mul positive).1 (rw pow-suc at below)

-- the numbers with the quotient p by m are m in a row
pub quotient_between : (p q m : ℕ) → 0 < m → q / m ≡ p ↔ ((p * m ≤ q) × (q ≤ (p + 1) * m - 1))
quotient_between p q m positive = (there, back)
  where
    there : q / m ≡ p → (p * m ≤ q) × (q ≤ (p + 1) * m - 1)
    there e =
        let low : p * m ≤ q = rw e at (div-mul-le_self q m) in
        let high : q < p * m + m = rw e at (lt-div-mul-add {a = q} positive) in
        (low, omega arith)

    back : (p * m ≤ q) × (q ≤ (p + 1) * m - 1) → q / m ≡ p
    back h = div-eq_of_lt-le m h.0 (let some : 0 < (p + 1) * m = omega arith in omega arith)
