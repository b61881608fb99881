-- A word made of its hexadecimal digits, the lowest first: one more is the word modulo 16 times as much. Assumes nothing.
use mathlib.Core.Path.{◌≡◌, ap, ◌∙◌, sym}
use Prim.Native.Nat.{ℕ, ◌+◌, ◌*◌, ◌/◌, ◌%◌, ◌^◌, ◌<◌}
use native.Mathlib.Nat.{add_comm, mod-eq_of_lt, lt_of_lt_of_le}
use native.Mathlib.Omega.{arith}
use lib.Pow.{pow_mono, shl_lt, mod-pow-add}

module _ (w i d : ℕ) (few : i < 8) (is : d ≡ w / 2 ^ (16 * (i / 4) + 4 * (i % 4)) % 16) where
  its_place : 16 * (i / 4) + 4 * (i % 4) ≡ 4 * i
  its_place = omega arith

  here : d ≡ w / 2 ^ (4 * i) % 16
  here = is ∙ ap (λ (k : ℕ). w / 2 ^ k % 16) its_place

  fits : d * 2 ^ (4 * i) < 2 ^ 32
  fits =
      let small : d < 2 ^ 4 = omega (arith, here) in
      lt_of_lt_of_le (shl_lt 4 (4 * i) small) (pow_mono {j = 32} (omega arith))

  pub one_digit_more : w % 2 ^ (4 * i) + d * 2 ^ (4 * i) % 2 ^ 32 ≡ w % 2 ^ (4 * (i + 1))
  one_digit_more =
      let exponent : 4 + 4 * i ≡ 4 * (i + 1) = omega arith in
      ap (λ (a : ℕ). w % 2 ^ (4 * i) + a) (mod-eq_of_lt fits ∙ ap (λ (k : ℕ). k * 2 ^ (4 * i)) here)
      ∙ add_comm (w % 2 ^ (4 * i)) (w / 2 ^ (4 * i) % 16 * 2 ^ (4 * i))
      ∙ sym (mod-pow-add w 4 (4 * i))
      ∙ ap (λ (k : ℕ). w % 2 ^ k) exponent
