-- Where a field ends after its first digits it is these digits, and how many they are and the first of them decide whether it is a number; where
-- it goes on, it has another byte or too many digits. Assumes nothing.
use Rattle.std.proofs.Math.Bool.{and-false}
use Rattle.std.proofs.lemmas.List.{nil_from_length}
use mathlib.Core.Path.{◌≡◌, refl, ap, ap₂, ◌∙◌, sym}
use mathlib.Core.Bool.{Bool, true, false}
use mathlib.Core.List.{List, []}
use Prim.Native.Nat.{ℕ, ◌+◌, ◌≤◌, ◌<◌}
use native.Mathlib.Omega.{arith}
use lib.Dec.{eqb, ltb}
use lib.ListN.{length, get_or, drop}
use borrow.Author.Tests.{le-leb, lt-leb, ltb-true, ltb-false, eqb-true, eqb-false}
use Rattle.paper.specs.Outcome.{accepted, refused}
use Rattle.fields.specs.Fields.{all_digits, leading_zero, is_number, value_from, value}
use Rattle.fields.specs.Inner.{piece, Ran, zero_first, number_at}
use Rattle.fields.specs.declared.digits.Run.{Run}
use Rattle.fields.proofs.Cursor.{end_none, piece_some}
use Rattle.fields.proofs.Values.{parts_number}

-- ---- what is no number
module _ (f : List ℕ) where
  not_none : length f ≡ 0 → is_number f ≡ false
  not_none none = simp none

  not_long : 9 < length f → is_number f ≡ false
  not_long long = simp (le-leb 1 (length f) (omega arith), lt-leb (length f) 9 long)

  not_zero : leading_zero f ≡ true → is_number f ≡ false
  not_zero zero = simp (zero, and-false)

  not_digits : all_digits f ≡ false → is_number f ≡ false
  not_digits other = simp (other, and-false)

refused_so : (s : List ℕ) (at : ℕ) → is_number (piece (drop at s)) ≡ false → refused 23 0 ≡ number_at s at
refused_so s at none = simp none

pub number_missing : (s : List ℕ) (at : ℕ) → length s ≤ at → refused 23 0 ≡ number_at s at
number_missing s at past = refused_so s at (not_none (piece (drop at s)) (end_none s at past))

-- ---- the field that begins at `at`, and its first digits
module _ (s : List ℕ) (at : ℕ) (r : Run) (ran : Ran s at r) where
  -- where the field goes on
  pub number_open : eqb (length (piece (drop (at + r.count) s))) 0 ≡ false → refused 23 0 ≡ number_at s at
  unfolding all_digits
  number_open onward = refused_so s at (by_count (ltb r.count 9) refl)
    where
      some : length (piece (drop (at + r.count) s)) ≡ 0 → ⊥
      some = eqb-false _ 0 onward

      by_count : (t : Bool) → ltb r.count 9 ≡ t → is_number (piece (drop at s)) ≡ false
      by_count true e =
          not_digits (piece (drop at s))
          (ran.reached.digits ∙ ap all_digits (piece_some s (at + r.count) some) ∙ simp (ran.stop (ltb-true r.count 9 e)))
      by_count false e =
          let most = ltb-false r.count 9 e in
          not_long (piece (drop at s)) (omega (arith, ran.reached.long, some))

  -- where there is no digit
  pub number_none : r.count ≡ 0 → refused 23 0 ≡ number_at s at
  number_none none = by_end (eqb (length (piece (drop (at + r.count) s))) 0) refl
    where
      by_end : (t : Bool) → eqb (length (piece (drop (at + r.count) s))) 0 ≡ t → refused 23 0 ≡ number_at s at
      by_end true e =
          let left = eqb-true (length (piece (drop (at + r.count) s))) 0 e in
          refused_so s at (not_none (piece (drop at s)) (omega (arith, ran.reached.long)))
      by_end false e = number_open e

  -- where there are digits, and it ends after them
  module _ (some : r.count ≡ 0 → ⊥) (closed : eqb (length (piece (drop (at + r.count) s))) 0 ≡ true) where
    long : at + length (piece (drop at s)) ≡ at + r.count
    long = omega (arith, ran.reached.long, eqb-true (length (piece (drop (at + r.count) s))) 0 closed)

    none_left : piece (drop (at + r.count) s) ≡ []
    none_left = nil_from_length _ (eqb-true _ 0 closed)

    zero_same : leading_zero (piece (drop at s)) ≡ zero_first (get_or s at 0) r.count
    zero_same =
        let first = piece_some s at (λ none. some (omega (arith, long, none))) in
        let many : length (piece (drop at s)) ≡ r.count = omega (arith, long) in
        ap₂ zero_first (ap (λ (f : List ℕ). get_or f 0 0) first) many

    pub number_zero : zero_first (get_or s at 0) r.count ≡ true → refused 23 0 ≡ number_at s at
    number_zero zero = refused_so s at (not_zero (piece (drop at s)) (zero_same ∙ zero))

    pub number_is : zero_first (get_or s at 0) r.count ≡ false → accepted (r.number, at + r.count) ≡ number_at s at
    unfolding all_digits value_from
    number_is plain =
        let f = piece (drop at s) in
        let is : is_number (piece (drop at s)) ≡ true =
        parts_number f record {
          some = omega (arith, long, some);
          short = omega (arith, long, ran.few);
          plain = zero_same ∙ plain;
          digits = ran.reached.digits ∙ ap all_digits none_left;
        } in
        let says : value (piece (drop at s)) ≡ r.number = ran.reached.says ∙ ap (value_from r.number) none_left in
        sym (simp is (ap₂ (λ (n e : ℕ). accepted (n, e)) says long))
