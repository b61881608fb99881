-- A number that is printed reads back as itself: each digit printed divides it by ten, and each digit read makes it ten times as large. Its first
-- digit is no zero, except of 0 itself. Assumes nothing.
use mathlib.Core.Path.{◌≡◌, refl, ap, ◌∙◌, sym, subst⁻¹}
use mathlib.Core.Bool.{Bool, true, false}
use mathlib.Core.List.{List, [], ◌∷◌, ◌++◌}
use Prim.Native.Nat.{ℕ, zero, suc, ◌+◌, ◌*◌, ◌/◌, ◌%◌, ◌^◌, ◌≤◌, ◌<◌}
use native.Mathlib.Omega.{arith}
use lib.Dec.{ltb}
use lib.ListN.{length, get_or, length-append, get_or-append}
use borrow.Author.Tests.{ltb-true, ltb-false, le-leb}
use Rattle.fields.specs.Fields.{all_digits, is_number, value_from, value}
use Rattle.fields.proofs.Numbers.{zero_other}
use Rattle.fields.proofs.Values.{parts_number, value_append, digits_append}
use Rattle.text.specs.Text.{decimal_in, decimal}
use Rattle.text.proofs.Decimals.{tenth, digits_small, digits_more, two_digits, decimal_small, decimal_few}

-- a number by its digits: one, or more
by_digits : {C : Type 0} (n : ℕ) → (n < 10 → C) → (10 ≤ n → C) → C
by_digits {C} n one more = by (ltb n 10) refl
  where
    by : (t : Bool) → ltb n 10 ≡ t → C
    by true e = one (ltb-true n 10 e)
    by false e = more (ltb-false n 10 e)

-- ---- its digits
digit : (d : ℕ) → d < 10 → all_digits ((48 + d) ∷ []) ≡ true
unfolding all_digits
digit d small = simp (le-leb 48 (48 + d) (omega arith), le-leb (48 + d) 57 (omega arith))

all_digits_lem : (k n : ℕ) → all_digits (decimal_in k n) ≡ true
unfolding all_digits decimal_in
all_digits_lem zero n = refl
all_digits_lem (suc k) n =
    let last : n % 10 < 10 = omega arith in
    let onward = all_digits_lem k (n / 10) in
    by_digits n
    (λ small. ap all_digits (digits_small k n small) ∙ digit n small)
    (λ large. ap all_digits (digits_more k n large) ∙ digits_append (decimal_in k (n / 10)) ((48 + n % 10) ∷ []) onward (digit (n % 10) last))

-- ---- its value
value_one : (m d : ℕ) → value_from m ((48 + d) ∷ []) ≡ m * 10 + d
unfolding value_from
value_one m d = omega arith

value_back : (k n : ℕ) → 1 ≤ k → n < 10 ^ k → value (decimal_in k n) ≡ n
value_back zero n some below = absurd (omega arith)
value_back (suc k) n some below =
    let onward : 10 ≤ n → value (decimal_in k (n / 10)) ≡ n / 10 = λ large. value_back k (n / 10) (two_digits k n below large) (tenth n k below) in
    by_digits n
    (λ small. ap value (digits_small k n small) ∙ value_one 0 n ∙ omega arith)
    (λ large.
    let again : n / 10 * 10 + n % 10 ≡ n = omega arith in
    ap value (digits_more k n large) ∙ value_append (decimal_in k (n / 10)) ((48 + n % 10) ∷ []) 0
    ∙ ap (λ (m : ℕ). value_from m ((48 + n % 10) ∷ [])) (onward large)
    ∙ value_one (n / 10) (n % 10) ∙ again)

-- ---- its first digit
record Opens (f : List ℕ) : Type 0 where
  pub some : 0 < length f
  pub no_zero : get_or f 0 0 ≡ 48 → ⊥

opens : (k n : ℕ) → 1 ≤ n → n < 10 ^ k → Opens (decimal_in k n)
opens zero n some below = absurd (omega arith)
opens (suc k) n some below =
    let onward : 10 ≤ n → Opens (decimal_in k (n / 10)) = λ large. opens k (n / 10) (omega arith) (tenth n k below) in
    by_digits n
    (λ small. subst⁻¹ Opens (digits_small k n small) (record { some = omega arith; no_zero = λ is. omega (arith, is) }))
    (λ large. subst⁻¹ Opens (digits_more k n large) (opens_more (decimal_in k (n / 10)) ((48 + n % 10) ∷ []) (onward large)))
  where
    opens_more : (f g : List ℕ) → Opens f → Opens (f ++ g)
    opens_more f g first =
        let some = first.some in
        record {
          some = omega (arith, length-append f g);
          no_zero = λ is. first.no_zero (sym (get_or-append f g 0 0 some) ∙ is);
        }

-- ---- a number below 10^9
pub decimal_number : (n : ℕ) → n < 10 ^ 9 → is_number (decimal n) ≡ true
unfolding all_digits
decimal_number zero below = ap is_number (decimal_small 0 (omega arith))
decimal_number (suc m) below =
    let first = opens 20 (suc m) (omega arith) (omega arith) in
    parts_number (decimal (suc m))
    (record {
      some = first.some;
      short = decimal_few 9 (suc m) (omega arith) below;
      plain = zero_other (decimal (suc m)) first.no_zero;
      digits = all_digits_lem 20 (suc m);
    })

pub decimal_value_back : (n : ℕ) → n < 10 ^ 9 → value (decimal n) ≡ n
decimal_value_back n below = value_back 20 n (omega arith) (omega arith)
