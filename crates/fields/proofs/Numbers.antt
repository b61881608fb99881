-- The digits of a field: each makes the number before it ten times as large, and what is left of the field says the rest. Assumes nothing.
use mathlib.Core.Path.{◌≡◌, ap, ◌∙◌, sym}
use mathlib.Core.Bool.{true, false, and-eq-true_iff}
use mathlib.Core.List.{List}
use Prim.Native.Nat.{ℕ, ◌+◌, ◌-◌, ◌*◌, ◌^◌, ◌≤◌, ◌<◌}
use native.Mathlib.Omega.{arith}
use lib.Dec.{leb}
use lib.ListN.{length, get_or, take, drop, length-take, length-drop}
use lib.Seq.{get_or-drop}
use Rattle.std.proofs.lemmas.List.{get_or-take}
use Rattle.std.specs.Char.{is_ascii_digit}
use lib.Pow.{pow-add}
use borrow.Author.Tests.{ne_eqb, le-leb, leb-true}
use Rattle.fields.specs.Fields.{is_digit, all_digits, leading_zero, value_from}
use Rattle.fields.specs.Inner.{Reached}
use Rattle.fields.proofs.Cursor.{piece_more}

-- ---- a digit more
pub digit_below : (n i d : ℕ) → n < 10 ^ i → d < 10 → n * 10 + d < 10 ^ (i + 1)
digit_below n i d below small = rw (pow-add 10 i 1) (omega arith)

-- ---- a byte is a digit or not
digit_true : (b : ℕ) → 48 ≤ b → b ≤ 57 → is_digit b ≡ true
digit_true b low high = simp (le-leb 48 b low, le-leb b 57 high)

pub is_digit_lem : (b : ℕ) → is_digit b ≡ true → (48 ≤ b) × (b ≤ 57)
is_digit_lem b is =
    let both = (and-eq-true_iff (leb 48 b) (leb b 57)).0 is in
    (leb-true 48 b both.0, leb-true b 57 both.1)

pub zero_other : (f : List ℕ) → (get_or f 0 0 ≡ 48 → ⊥) → leading_zero f ≡ false
zero_other f other = simp (ne_eqb (get_or f 0 0) 48 other)

-- ---- the loop over the digits
reached_more : (s : List ℕ) (at n i : ℕ) → Reached s at n i → i < length s → 48 ≤ get_or s i 0 → get_or s i 0 ≤ 57
    → Reached s at (n * 10 + (get_or s i 0 - 48)) (i + 1)
unfolding all_digits value_from
reached_more s at n i reached there low high =
    let more = piece_more s i there (λ lf. omega (arith, lf)) (λ semicolon. omega (arith, semicolon)) in
    record {
      long = omega (arith, reached.long, ap length more);
      digits = reached.digits ∙ ap all_digits more ∙ simp (digit_true (get_or s i 0) low high);
      says = reached.says ∙ ap (value_from n) more;
    }

-- after k digits, with the number n so far
pub record Passing (s : List ℕ) (at n k : ℕ) : Type 0 where
  pub few : k ≤ 9
  pub inside : at + k ≤ length s
  pub below : n < 10 ^ k
  pub reached : Reached s at n (at + k)

module _ {s : List ℕ} {at n k : ℕ} (passing : Passing s at n k) where
  -- ---- a byte more of the m that are looked at
  module _ (m : ℕ) (there : k < length (take m (drop at s))) where
    byte_at : get_or (take m (drop at s)) k 0 ≡ get_or s (at + k) 0
    byte_at = let below : k < m = omega (arith, length-take m (drop at s)) in get_or-take m (drop at s) k 0 below ∙ get_or-drop at s k 0

    byte_inside : at + k < length s
    byte_inside = omega (arith, length-take m (drop at s), length-drop at s)

    module _ (more : k < 9) where
      pub passing_more : (v : ℕ) → v ≡ get_or (take m (drop at s)) k 0 - 48 → is_ascii_digit (get_or (take m (drop at s)) k 0) ≡ true
          → Passing s at (n * 10 + v) (k + 1)
      passing_more v says digit =
          let is = is_digit_lem (get_or s (at + k) 0) (ap is_digit (sym byte_at) ∙ digit) in
          let high = is.1 in
          let next : at + (k + 1) ≡ at + k + 1 = omega arith in
          rw (says, byte_at)
          record {
            few = omega arith;
            inside = omega (arith, byte_inside);
            below = digit_below n k (get_or s (at + k) 0 - 48) passing.below (omega arith);
            reached = rw next (reached_more s at n (at + k) passing.reached byte_inside is.0 is.1);
          }
