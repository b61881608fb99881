-- Where field seven begins: byte after byte, with the semicolons that are still to come. Assumes nothing.
use mathlib.Core.Path.{◌≡◌, ap, ◌∙◌, sym}
use mathlib.Core.List.{List, [], ◌∷◌}
use Prim.Native.Nat.{ℕ, suc, ◌+◌, ◌-◌, ◌≤◌, ◌<◌}
use native.Mathlib.Omega.{arith}
use lib.ListN.{length, get_or, drop, length-drop, drop_of_length-le}
use lib.Seq.{drop-cons}
use borrow.Author.Tests.{eq-eqb, ne_eqb}
use Rattle.fields.specs.Fields.{lf, semicolon}
use Rattle.converter.specs.Inner.{begins}

-- at byte i, with k semicolons to come
pub record Seat (s : List ℕ) (k i : ℕ) : Type 0 where
  pub within : i ≤ length s
  pub same : begins 6 s ≡ i + begins k (drop i s)

pub seat_here : {s : List ℕ} {k i : ℕ} → Seat s k i → k ≡ 0 → i ≡ begins 6 s
unfolding begins
seat_here {s} {k} {i} seat none = omega (arith, seat.same, ap (λ (j : ℕ). begins j (drop i s)) none)

module _ (b : ℕ) (k : ℕ) (u : List ℕ) where
  begins_lf : b ≡ lf → begins (suc k) (b ∷ u) ≡ length u + 2
  unfolding begins
  begins_lf is = simp (eq-eqb b lf is)

  begins_field : b ≡ semicolon → begins (suc k) (b ∷ u) ≡ suc (begins k u)
  unfolding begins
  begins_field is = simp (ne_eqb b lf (λ d. omega (arith, d)), eq-eqb b semicolon is)

  begins_on : (b ≡ lf → ⊥) → (b ≡ semicolon → ⊥) → begins (suc k) (b ∷ u) ≡ suc (begins (suc k) u)
  unfolding begins
  begins_on no_lf no_semicolon = simp (ne_eqb b lf no_lf, ne_eqb b semicolon no_semicolon)

module _ {s : List ℕ} {k i : ℕ} (seat : Seat s k i) (some : k ≡ 0 → ⊥) where
  more : k ≡ suc (k - 1)
  more = omega arith

  pub seat_past : length s ≤ i → length s + 1 ≡ begins 6 s
  unfolding begins
  seat_past past =
      let none : begins k (drop i s) ≡ 1 = ap (begins k) (drop_of_length-le s past) ∙ ap (λ (j : ℕ). begins j []) more in
      omega (arith, seat.same, none, seat.within)

  module _ (inside : i < length s) where
    here : begins k (drop i s) ≡ begins (suc (k - 1)) (get_or s i 0 ∷ drop (suc i) s)
    here = ap (begins k) (drop-cons s i 0 inside) ∙ ap (λ (j : ℕ). begins j (get_or s i 0 ∷ drop (suc i) s)) more

    pub seat_over : get_or s i 0 ≡ lf → length s + 1 ≡ begins 6 s
    seat_over is =
        omega (arith, seat.same, here ∙ begins_lf (get_or s i 0) (k - 1) (drop (suc i) s) is, length-drop (suc i) s)

    pub seat_field : get_or s i 0 ≡ semicolon → Seat s (k - 1) (i + 1)
    seat_field is =
        let one : i + 1 ≡ suc i = omega arith in
        record {
          within = omega arith;
          same = omega (arith, seat.same, here ∙ begins_field (get_or s i 0) (k - 1) (drop (suc i) s) is, ap (λ (j : ℕ). begins (k - 1) (drop j s)) one);
        }

    pub seat_on : (get_or s i 0 ≡ lf → ⊥) → (get_or s i 0 ≡ semicolon → ⊥) → Seat s k (i + 1)
    seat_on no_lf no_semicolon =
        let one : i + 1 ≡ suc i = omega arith in
        let next = here ∙ begins_on (get_or s i 0) (k - 1) (drop (suc i) s) no_lf no_semicolon ∙ ap (λ (j : ℕ). suc (begins j (drop (suc i) s))) (sym more) in
        record {
          within = omega arith;
          same = omega (arith, seat.same, next, ap (λ (j : ℕ). begins k (drop j s)) one);
        }
