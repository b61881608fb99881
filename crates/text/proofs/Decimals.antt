-- Twenty digits hold every number of the machine, so one digit more or less of room changes nothing. Assumes nothing.
use mathlib.Core.Path.{◌≡◌, refl, ap, ◌∙◌, sym}
use mathlib.Core.Bool.{Bool, true, false}
use mathlib.Core.List.{List, [], ◌∷◌, ◌++◌}
use Prim.Native.Nat.{ℕ, zero, suc, ◌+◌, ◌/◌, ◌%◌, ◌^◌, ◌≤◌, ◌<◌}
use native.Mathlib.Nat.{div-lt_iff_lt-mul, pow-suc}
use native.Mathlib.Omega.{arith}
use lib.Dec.{ltb}
use lib.ListN.{length, length-append}
use borrow.Author.Tests.{lt-ltb, le-ltb, ltb-true, ltb-false}
use Rattle.text.specs.Text.{decimal_in, decimal, counted, entry}
use Rattle.std.specs.Fmt.{decimal as text_of}
use Rattle.std.proofs.lemmas.Fmt.{decimal_by_steps}

-- one digit fewer
pub tenth : (n k : ℕ) → n < 10 ^ suc k → n / 10 < 10 ^ k
tenth n k below = let ten : 0 < 10 = omega arith in (div-lt_iff_lt-mul ten).1 (rw (pow-suc 10 k) at below)

module _ (k n : ℕ) where
  pub digits_small : n < 10 → decimal_in (suc k) n ≡ (48 + n) ∷ []
  unfolding decimal_in
  digits_small small = simp (lt-ltb n 10 small)

  pub digits_more : 10 ≤ n → decimal_in (suc k) n ≡ decimal_in k (n / 10) ++ ((48 + n % 10) ∷ [])
  unfolding decimal_in
  digits_more large = simp (le-ltb n 10 large)

-- a number of two digits needs room for them
pub two_digits : (k n : ℕ) → n < 10 ^ suc k → 10 ≤ n → 1 ≤ k
two_digits zero n below large = absurd (omega arith)
two_digits (suc k) n below large = omega arith

-- more room than needed
digits_room : (k n : ℕ) → 1 ≤ k → n < 10 ^ k → decimal_in (suc k) n ≡ decimal_in k n
digits_room zero n some below = absurd (omega arith)
digits_room (suc k) n some below = by_size (λ large. digits_room k (n / 10) (two_digits k n below large) (tenth n k below)) (ltb n 10) refl
  where
    by_size : (10 ≤ n → decimal_in (suc k) (n / 10) ≡ decimal_in k (n / 10)) → (t : Bool) → ltb n 10 ≡ t → decimal_in (suc (suc k)) n ≡ decimal_in (suc k) n
    by_size onward true e = let small = ltb-true n 10 e in digits_small (suc k) n small ∙ sym (digits_small k n small)
    by_size onward false e =
        let large = ltb-false n 10 e in
        digits_more (suc k) n large ∙ ap (λ (ds : List ℕ). ds ++ ((48 + n % 10) ∷ [])) (onward large) ∙ sym (digits_more k n large)

-- ---- the last digit, and those before it
module _ (n : ℕ) where
  pub decimal_small : n < 10 → decimal n ≡ (48 + n) ∷ []
  decimal_small small = digits_small 19 n small

  pub decimal_more : 10 ≤ n → n < 2 ^ 64 → decimal n ≡ decimal (n / 10) ++ ((48 + n % 10) ∷ [])
  decimal_more large word =
      let below : n < 10 ^ 20 = omega arith in
      digits_more 19 n large ∙ ap (λ (ds : List ℕ). ds ++ ((48 + n % 10) ∷ [])) (sym (digits_room 19 (n / 10) (omega arith) (tenth n 19 below)))

-- ---- how many digits
digits_few : (m k n : ℕ) → 1 ≤ k → n < 10 ^ k → length (decimal_in m n) ≤ k
unfolding decimal_in
digits_few zero k n some below = omega arith
digits_few (suc m) zero n some below = absurd (omega arith)
digits_few (suc m) (suc k) n some below = by_size (λ large. digits_few m k (n / 10) (two_digits k n below large) (tenth n k below)) (ltb n 10) refl
  where
    by_size : (10 ≤ n → length (decimal_in m (n / 10)) ≤ k) → (t : Bool) → ltb n 10 ≡ t → length (decimal_in (suc m) n) ≤ suc k
    by_size onward true e = omega (arith, ap length (digits_small m n (ltb-true n 10 e)))
    by_size onward false e =
        let large = ltb-false n 10 e in
        let few = onward large in
        omega (arith, ap length (digits_more m n large), length-append (decimal_in m (n / 10)) ((48 + n % 10) ∷ []))

pub decimal_few : (k n : ℕ) → 1 ≤ k → n < 10 ^ k → length (decimal n) ≤ k
decimal_few k n = digits_few 20 k n

digits_most : (m n : ℕ) → length (decimal_in m n) ≤ m
unfolding decimal_in
digits_most zero n = omega arith
digits_most (suc m) n = by_size (digits_most m (n / 10)) (ltb n 10) refl
  where
    by_size : length (decimal_in m (n / 10)) ≤ m → (t : Bool) → ltb n 10 ≡ t → length (decimal_in (suc m) n) ≤ suc m
    by_size few true e = omega (arith, ap length (digits_small m n (ltb-true n 10 e)))
    by_size few false e =
        omega (arith, ap length (digits_more m n (ltb-false n 10 e)), length-append (decimal_in m (n / 10)) ((48 + n % 10) ∷ []))

pub decimal_20 : (n : ℕ) → length (decimal n) ≤ 20
decimal_20 n = digits_most 20 n

-- ---- std's digits are the same
pub std_decimal : (n : ℕ) → n < 2 ^ 64 → text_of n ≡ decimal n
std_decimal n word =
    decimal_by_steps (λ (k : ℕ) (ds : List ℕ). k < 2 ^ 64 → ds ≡ decimal k) (λ k small fits. sym (decimal_small k small))
    (λ k ds large before fits. ap (λ (es : List ℕ). es ++ ((48 + k % 10) ∷ [])) (before (omega arith)) ∙ sym (decimal_more k large fits))
    n word word

-- ---- how far a number and a word with its number may reach
pub counted_few : (n b : ℕ) → length (counted n b) ≤ 21
counted_few n b = omega (arith, decimal_20 n, length-append (decimal n) (b ∷ []))

pub entry_few : (w : List ℕ) (n b m : ℕ) → length w + 21 ≤ m → length (entry w n b) ≤ m
entry_few w n b m room = omega (arith, counted_few n b, length-append w (counted n b))
