-- What digits say: of digits after one another, and how large a field's number may be. Assumes nothing.
use mathlib.Core.Path.{◌≡◌, refl, subst}
use mathlib.Core.Bool.{true, false, not, and-eq-true_iff}
use mathlib.Core.List.{List, [], ◌∷◌, ◌++◌}
use Prim.Native.Nat.{ℕ, suc, ◌+◌, ◌-◌, ◌*◌, ◌^◌, ◌≤◌, ◌<◌}
use native.Mathlib.Nat.{add-zero, pow-le-pow_right}
use native.Mathlib.Omega.{arith}
use lib.Dec.{leb}
use lib.ListN.{length}
use borrow.Author.Tests.{leb-true, le-leb, not-true}
use Rattle.fields.specs.Fields.{is_digit, all_digits, leading_zero, is_number, value_from, value}
use Rattle.fields.proofs.Numbers.{is_digit_lem, digit_below}

-- ---- what a number's field is
pub all_parts : (b : ℕ) (f : List ℕ) → all_digits (b ∷ f) ≡ true → (48 ≤ b) × (b ≤ 57) × (all_digits f ≡ true)
unfolding all_digits
all_parts b f all =
    let both = (and-eq-true_iff (is_digit b) (all_digits f)).0 all in
    let digit = is_digit_lem b both.0 in
    (digit.0, digit.1, both.1)

pub record IsNumber (f : List ℕ) : Type 0 where
  pub some : 1 ≤ length f
  pub short : length f ≤ 9
  pub plain : leading_zero f ≡ false
  pub digits : all_digits f ≡ true

pub number_parts : (f : List ℕ) → is_number f ≡ true → IsNumber f
number_parts f is =
    let some = (and-eq-true_iff (leb 1 (length f)) _).0 is in
    let few = (and-eq-true_iff (leb (length f) 9) _).0 some.1 in
    let rest = (and-eq-true_iff (not (leading_zero f)) (all_digits f)).0 few.1 in
    record {
      some = leb-true 1 (length f) some.0;
      short = leb-true (length f) 9 few.0;
      plain = not-true (leading_zero f) rest.0;
      digits = rest.1;
    }

pub parts_number : (f : List ℕ) → IsNumber f → is_number f ≡ true
parts_number f is = simp (le-leb 1 (length f) is.some, le-leb (length f) 9 is.short, is.plain, is.digits)

-- ---- one after the other
pub value_append : (f g : List ℕ) (n : ℕ) → value_from n (f ++ g) ≡ value_from (value_from n f) g
unfolding value_from
value_append [] g n = refl
value_append (b ∷ f) g n = value_append f g (n * 10 + (b - 48))

pub digits_append : (f g : List ℕ) → all_digits f ≡ true → all_digits g ≡ true → all_digits (f ++ g) ≡ true
unfolding all_digits
digits_append [] g first second = second
digits_append (b ∷ f) g first second =
    let both = (and-eq-true_iff (is_digit b) (all_digits f)).0 first in
    (and-eq-true_iff (is_digit b) (all_digits (f ++ g))).1 (both.0, digits_append f g both.1 second)

-- ---- how large
value_below : (f : List ℕ) (n i : ℕ) → all_digits f ≡ true → n < 10 ^ i → value_from n f < 10 ^ (i + length f)
unfolding value_from
value_below [] n i all below = rw (add-zero i) below
value_below (b ∷ f) n i all below =
    let digits = all_parts b f all in
    let same : i + 1 + length f ≡ i + suc (length f) = omega arith in
    let high = digits.1 in
    subst (λ (k : ℕ). value_from (n * 10 + (b - 48)) f < 10 ^ k) same
    (value_below f (n * 10 + (b - 48)) (i + 1) digits.2 (digit_below n i (b - 48) below (omega arith)))

pub number_below : (f : List ℕ) → is_number f ≡ true → value f < 10 ^ 9
number_below f is =
    let number = number_parts f is in
    let few : 0 + length f ≤ 9 = omega (arith, number.short) in
    let most : 10 ^ (0 + length f) ≤ 10 ^ 9 = pow-le-pow_right (omega arith) few in
    let below = value_below f 0 0 number.digits (omega arith) in
    omega arith
