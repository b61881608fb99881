-- A field's number, printed, is the field: each digit read makes the number ten times as large, and each digit printed divides it by ten.
-- Assumes nothing.
use Rattle.std.proofs.lemmas.List.{nil_from_length}
use mathlib.Core.Path.{◌≡◌, refl, ap, ap₂, ◌∙◌, sym}
use mathlib.Core.Bool.{Bool, true, false, not, false≢true}
use mathlib.Core.List.{List, [], ◌∷◌, ◌++◌, append_assoc, append-nil}
use Prim.Native.Nat.{ℕ, suc, ◌+◌, ◌-◌, ◌*◌, ◌/◌, ◌%◌, ◌^◌, ◌≤◌, ◌<◌}
use native.Mathlib.Nat.{pow-le-pow_right}
use native.Mathlib.Omega.{arith}
use lib.Dec.{eqb}
use lib.ListN.{length}
use borrow.Author.Tests.{eqb-true, eqb-false, eq-eqb, not-false}
use Rattle.fields.specs.Fields.{all_digits, leading_zero, is_number, value_from, value}
use Rattle.forms.specs.Forms.{given, number_in, fault}
use Rattle.forms.proofs.Bounds.{in_field}
use Rattle.text.specs.Text.{decimal}
use Rattle.fields.proofs.Numbers.{digit_below}
use Rattle.fields.proofs.Values.{all_parts, number_parts}
use Rattle.text.proofs.Decimals.{decimal_small, decimal_more}

-- one digit more, after the number n
digit_after : (n b : ℕ) → 1 ≤ n → n < 1000000000 → 48 ≤ b → b ≤ 57 → decimal (n * 10 + (b - 48)) ≡ decimal n ++ (b ∷ [])
digit_after n b some small low high =
    let tens : (n * 10 + (b - 48)) / 10 ≡ n = omega arith in
    let last : 48 + (n * 10 + (b - 48)) % 10 ≡ b = omega arith in
    decimal_more (n * 10 + (b - 48)) (omega arith) (omega arith) ∙ ap₂ (λ (m d : ℕ). decimal m ++ (d ∷ [])) tens last

-- ---- digits after the number n, which has i digits
digits_after : (f : List ℕ) (n i : ℕ) → all_digits f ≡ true → 1 ≤ n → n < 10 ^ i → i + length f ≤ 9 → decimal (value_from n f) ≡ decimal n ++ f
unfolding value_from
digits_after [] n i all some below short = sym (append-nil (decimal n))
digits_after (b ∷ f) n i all some below short =
    let digit = all_parts b f all in
    let low = digit.0 in
    let high = digit.1 in
    let few : i ≤ 9 = omega arith in
    let small : 10 ^ i ≤ 10 ^ 9 = pow-le-pow_right (omega arith) few in
    digits_after f (n * 10 + (b - 48)) (i + 1) digit.2 (omega arith) (digit_below n i (b - 48) below (omega arith)) (omega arith)
    ∙ ap (λ (ds : List ℕ). ds ++ f) (digit_after n b some (omega arith) low high)
    ∙ append_assoc (decimal n) (b ∷ []) f

-- ---- a field, by its first digit
first_digit : (b : ℕ) (f : List ℕ) → 48 ≤ b → b ≤ 57 → all_digits f ≡ true → 1 + length f ≤ 9 → (b ≡ 48 → f ≡ []) → decimal (value (b ∷ f)) ≡ b ∷ f
unfolding value_from
first_digit b f low high all short lone = by_digit (eqb b 48) refl
  where
    by_digit : (x : Bool) → eqb b 48 ≡ x → decimal (value (b ∷ f)) ≡ b ∷ f
    by_digit true e =
        let zero_is = eqb-true b 48 e in
        ap₂ (λ (d : ℕ) (g : List ℕ). decimal (value (d ∷ g))) zero_is (lone zero_is) ∙ decimal_small 0 (omega arith) ∙ ap₂ (λ (d : ℕ) (g : List ℕ). d ∷ g) (sym zero_is) (sym (lone zero_is))
    by_digit false e =
        let other = eqb-false b 48 e in
        let digit : 48 + (0 * 10 + (b - 48)) ≡ b = omega arith in
        digits_after f (0 * 10 + (b - 48)) 1 all (omega (arith, other)) (omega arith) short
        ∙ ap (λ (ds : List ℕ). ds ++ f) (decimal_small (0 * 10 + (b - 48)) (omega arith))
        ∙ ap (λ (d : ℕ). d ∷ f) digit

-- no zero in front of other digits
lone_zero : (b : ℕ) (f : List ℕ) → leading_zero (b ∷ f) ≡ false → b ≡ 48 → f ≡ []
lone_zero b f plain is =
    let only : not (eqb (suc (length f)) 1) ≡ false = sym (simp (eq-eqb b 48 is)) ∙ plain in
    let one = eqb-true (suc (length f)) 1 (not-false (eqb (suc (length f)) 1) only) in
    nil_from_length f (omega (arith, one))

pub decimal_value : (f : List ℕ) → is_number f ≡ true → decimal (value f) ≡ f
decimal_value [] is = absurd (false≢true is)
decimal_value (b ∷ f) is =
    let number = number_parts (b ∷ f) is in
    let digits = all_parts b f number.digits in
    first_digit b f digits.0 digits.1 digits.2 (omega (arith, number.short)) (lone_zero b f number.plain)

-- ---- the fields that the first line repeats
pub field_repeated : (fs : List (List ℕ)) (i : ℕ) → fault fs i ≡ 0 → decimal (number_in fs i) ≡ given fs i
field_repeated fs i none = decimal_value (given fs i) (not-false (is_number (given fs i)) (in_field fs i none).0)
