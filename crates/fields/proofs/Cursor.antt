-- A field is found byte by byte: it ends at the first semicolon or LF, or where the input ends. Assumes nothing.
use mathlib.Core.Path.{◌≡◌, refl, ap, ◌∙◌, sym}
use mathlib.Core.Bool.{Bool, true, false, cond}
use mathlib.Core.List.{List, ◌∷◌}
use Prim.Native.Nat.{ℕ, suc, ◌+◌, ◌≤◌, ◌<◌}
use native.Mathlib.Numerals.{add-one}
use native.Mathlib.Omega.{arith}
use lib.Dec.{eqb, leb}
use lib.ListN.{length, get_or, drop, drop_of_length-le, get_or-eq_default}
use lib.Seq.{drop-cons}
use borrow.Author.Tests.{eq-eqb, ne_eqb, eqb-true, eqb-false, leb-true, leb-false}
use Rattle.fields.specs.Fields.{lf, semicolon}
use Rattle.fields.specs.Inner.{piece, next, closes}

-- ---- one byte more
pub drop_next : (s : List ℕ) (i : ℕ) → i < length s → drop i s ≡ get_or s i 0 ∷ drop (i + 1) s
drop_next s i inside = drop-cons s i 0 inside ∙ ap (λ (k : ℕ). get_or s i 0 ∷ drop k s) (sym (add-one i))

piece_lf : (b : ℕ) (s : List ℕ) → b ≡ lf → length (piece (b ∷ s)) ≡ 0
unfolding piece
piece_lf b s e = simp (eq-eqb b lf e)

piece_semicolon : (b : ℕ) (s : List ℕ) → (b ≡ lf → ⊥) → b ≡ semicolon → length (piece (b ∷ s)) ≡ 0
unfolding piece
piece_semicolon b s d e = simp (ne_eqb b lf d, eq-eqb b semicolon e)

piece_other : (b : ℕ) (s : List ℕ) → (b ≡ lf → ⊥) → (b ≡ semicolon → ⊥) → piece (b ∷ s) ≡ b ∷ piece s
unfolding piece
piece_other b s d e = simp (ne_eqb b lf d, ne_eqb b semicolon e)

module _ (s : List ℕ) (i : ℕ) where
  pub end_none : length s ≤ i → length (piece (drop i s)) ≡ 0
  unfolding piece
  end_none past = ap (λ (u : List ℕ). length (piece u)) (drop_of_length-le s past)

  pub end_lf : i < length s → get_or s i 0 ≡ lf → length (piece (drop i s)) ≡ 0
  end_lf inside e = ap (λ (u : List ℕ). length (piece u)) (drop_next s i inside) ∙ piece_lf _ (drop (i + 1) s) e

  pub end_semicolon : i < length s → (get_or s i 0 ≡ lf → ⊥) → get_or s i 0 ≡ semicolon → length (piece (drop i s)) ≡ 0
  end_semicolon inside d e = ap (λ (u : List ℕ). length (piece u)) (drop_next s i inside) ∙ piece_semicolon _ (drop (i + 1) s) d e

  pub piece_more : i < length s → (get_or s i 0 ≡ lf → ⊥) → (get_or s i 0 ≡ semicolon → ⊥) → piece (drop i s) ≡ get_or s i 0 ∷ piece (drop (i + 1) s)
  piece_more inside d e = ap piece (drop_next s i inside) ∙ piece_other _ (drop (i + 1) s) d e

  -- a field that is not empty begins with its first byte
  pub piece_some : (length (piece (drop i s)) ≡ 0 → ⊥) → piece (drop i s) ≡ get_or s i 0 ∷ piece (drop (i + 1) s)
  piece_some some = by_tests (leb (length s) i) refl (eqb (get_or s i 0) lf) refl (eqb (get_or s i 0) semicolon) refl
    where
      by_tests : (x : Bool) → leb (length s) i ≡ x → (y : Bool) → eqb (get_or s i 0) lf ≡ y → (z : Bool) → eqb (get_or s i 0) semicolon ≡ z
          → piece (drop i s) ≡ get_or s i 0 ∷ piece (drop (i + 1) s)
      by_tests true past y e z e' = absurd (some (end_none (leb-true (length s) i past)))
      by_tests false there true e z e' = absurd (some (end_lf (leb-false (length s) i there) (eqb-true _ lf e)))
      by_tests false there false e true e' = absurd (some (end_semicolon (leb-false (length s) i there) (eqb-false _ lf e) (eqb-true _ semicolon e')))
      by_tests false there false e false e' = piece_more (leb-false (length s) i there) (eqb-false _ lf e) (eqb-false _ semicolon e')

  pub ends_by_byte : i < length s → (get_or s i 0 ≡ lf → ⊥) → eqb (length (piece (drop i s))) 0 ≡ eqb (get_or s i 0) semicolon
  ends_by_byte inside d = by_test (eqb (get_or s i 0) semicolon) refl
    where
      by_test : (t : Bool) → eqb (get_or s i 0) semicolon ≡ t → eqb (length (piece (drop i s))) 0 ≡ t
      by_test true e = eq-eqb _ 0 (end_semicolon inside d (eqb-true _ semicolon e))
      by_test false e =
          ap (λ (f : List ℕ). eqb (length f) 0) (piece_more inside d (eqb-false _ semicolon e))
          ∙ ne_eqb (suc (length (piece (drop (i + 1) s)))) 0 (λ none. omega (arith, none))

  -- ---- the byte at a field's end
  pub next_none : length s ≤ i → next s i ≡ length s + 1
  next_none past =
      let no : get_or s i 0 ≡ 0 = get_or-eq_default s 0 past in
      ap (λ (b : ℕ). cond (eqb b semicolon) (i + 1) (length s + 1)) no

  pub next_field : get_or s i 0 ≡ semicolon → next s i ≡ i + 1
  next_field e = simp (eq-eqb (get_or s i 0) semicolon e)

  pub next_other : (get_or s i 0 ≡ semicolon → ⊥) → next s i ≡ length s + 1
  next_other d = simp (ne_eqb (get_or s i 0) semicolon d)

  pub closes_not : (i + 1 ≡ length s → ⊥) → closes s i ≡ false
  closes_not d = simp (ne_eqb (i + 1) (length s) d)

  pub closes_last : i + 1 ≡ length s → closes s i ≡ eqb (get_or s i 0) lf
  closes_last e = simp (eq-eqb (i + 1) (length s) e)
