-- The 2 put in where field seven is empty: the line's fields are then those that the old rule meant, and its end is as it was. Assumes nothing.
use mathlib.Core.Path.{◌≡◌, refl, ap, ◌∙◌, sym, subst⁻¹}
use mathlib.Core.Bool.{Bool, true, false}
use mathlib.Core.List.{List, [], ◌∷◌}
use Prim.Native.Nat.{ℕ, zero, suc, ◌+◌, ◌<◌}
use native.Mathlib.Omega.{arith}
use lib.Dec.{eqb, ltb}
use lib.ListN.{length, get_or, set, drop}
use borrow.Author.Tests.{lt-ltb, le-ltb, eqb-true, eqb-false, ltb-true, ltb-false}
use Rattle.fields.specs.Fields.{lf, semicolon, grown, fields, ended}
use Rattle.fields.specs.Inner.{piece}
use Rattle.fields.proofs.Cutting.{rest, later, cut}
use Rattle.converter.specs.Converter.{two, seventh}
use Rattle.converter.specs.Inner.{begins, gap_at, filled}

-- the fields with an empty one after k others as what field seven means
abbrev pub meant_at : ℕ → List (List ℕ) → List (List ℕ)
meant_at k fs = set fs k (seventh (get_or fs k []))

-- ---- a byte more in front
module _ (b : ℕ) (s : List ℕ) where
  gap_after : (at : ℕ) → gap_at (b ∷ s) (suc at) ≡ suc (gap_at s at)
  gap_after at = by_test (eqb (length (piece (drop at s))) 0) refl
    where
      by_test : (t : Bool) → eqb (length (piece (drop at s))) 0 ≡ t → gap_at (b ∷ s) (suc at) ≡ suc (gap_at s at)
      by_test true e = simp e
      by_test false e = simp e (omega arith)

  filled_after : (g : ℕ) → filled (b ∷ s) (suc g) ≡ b ∷ filled s g
  filled_after g = by_test (ltb (length s) g) refl
    where
      by_test : (t : Bool) → ltb (length s) g ≡ t → filled (b ∷ s) (suc g) ≡ b ∷ filled s g
      by_test true e = simp (e, lt-ltb (suc (length s)) (suc g) (omega (arith, ltb-true (length s) g e)))
      by_test false e = simp (e, le-ltb (suc (length s)) (suc g) (omega (arith, ltb-false (length s) g e)))

  filling_after : (at : ℕ) → filled (b ∷ s) (gap_at (b ∷ s) (suc at)) ≡ b ∷ filled s (gap_at s at)
  filling_after at = ap (filled (b ∷ s)) (gap_after at) ∙ filled_after (gap_at s at)

  pub line_over : eqb b lf ≡ true → fields (b ∷ s) ≡ [] ∷ []
  unfolding fields
  line_over e = simp e

  pub field_over : eqb b lf ≡ false → eqb b semicolon ≡ true → (fields (b ∷ s) ≡ [] ∷ fields s) × (ended (b ∷ s) ≡ ended s)
  unfolding fields ended
  field_over d e = (simp (d, e), simp d)

  pub field_on : eqb b lf ≡ false → eqb b semicolon ≡ false → (fields (b ∷ s) ≡ grown b (fields s)) × (ended (b ∷ s) ≡ ended s)
  unfolding fields ended
  field_on d e = (simp (d, e), simp d)

-- past the end nothing is put in
module _ (s : List ℕ) (at : ℕ) (past : length s < at) where
  filled_past : filled s at ≡ s
  filled_past = simp (lt-ltb (length s) at past)

  filling_past : filled s (gap_at s at) ≡ s
  filling_past = by_test (eqb (length (piece (drop at s))) 0) refl
    where
      by_test : (t : Bool) → eqb (length (piece (drop at s))) 0 ≡ t → filled s (gap_at s at) ≡ s
      by_test true e = simp e filled_past
      by_test false e = simp e (simp (lt-ltb (length s) (length s + 1) (omega arith)))

-- ---- the line with its gap filled
pub record Fills (k : ℕ) (s t : List ℕ) : Type 0 where
  pub same_fields : fields t ≡ meant_at k (fields s)
  pub same_end : ended t ≡ ended s

-- field seven first
pub seventh_some : (f : List ℕ) → (f ≡ [] → ⊥) → seventh f ≡ f
seventh_some [] some = absurd (some refl)
seventh_some (b ∷ f) some = refl

pub none_of : {A : Type 0} (l : List A) → length l ≡ 0 → l ≡ []
none_of [] none = refl
none_of (a ∷ l) none = absurd (omega arith)

module _ (s : List ℕ) where
  fills_empty : length (piece s) ≡ 0 → Fills 0 s (two ∷ s)
  unfolding fields ended
  fills_empty none =
      record {
        same_fields = ap (grown two) (cut s).first ∙ ap (λ (f : List ℕ). (two ∷ f) ∷ later (rest s)) (none_of (piece s) none)
            ∙ sym (ap (meant_at 0) (cut s).first ∙ ap (λ (f : List ℕ). seventh f ∷ later (rest s)) (none_of (piece s) none));
        same_end = refl;
      }

  fills_some : (length (piece s) ≡ 0 → ⊥) → Fills 0 s s
  fills_some some =
      record {
        same_fields = (cut s).first ∙ sym (ap (meant_at 0) (cut s).first
            ∙ ap (λ (f : List ℕ). f ∷ later (rest s)) (seventh_some (piece s) (λ none. some (ap length none))));
        same_end = refl;
      }

  fills_first : Fills 0 s (filled s (gap_at s 0))
  fills_first = by_test (eqb (length (piece s)) 0) refl
    where
      by_test : (t : Bool) → eqb (length (piece s)) 0 ≡ t → Fills 0 s (filled s (gap_at s 0))
      by_test true e =
          let is : filled s (gap_at s 0) ≡ two ∷ s = simp (e, le-ltb (length s) 0 (omega arith)) in
          subst⁻¹ (Fills 0 s) is (fills_empty (eqb-true (length (piece s)) 0 e))
      by_test false e =
          let is : filled s (gap_at s 0) ≡ s = simp e (filled_past s (length s + 1) (omega arith)) in
          subst⁻¹ (Fills 0 s) is (fills_some (eqb-false (length (piece s)) 0 e))

-- a byte more
module _ (k b : ℕ) (s t : List ℕ) where
  fills_field : eqb b lf ≡ false → eqb b semicolon ≡ true → Fills k s t → Fills (suc k) (b ∷ s) (b ∷ t)
  fills_field d e f =
      record {
        same_fields = (field_over b t d e).0 ∙ ap (λ (fs : List (List ℕ)). [] ∷ fs) f.same_fields ∙ sym (ap (meant_at (suc k)) (field_over b s d e).0);
        same_end = (field_over b t d e).1 ∙ f.same_end ∙ sym (field_over b s d e).1;
      }

  fills_on : eqb b lf ≡ false → eqb b semicolon ≡ false → Fills (suc k) s t → Fills (suc k) (b ∷ s) (b ∷ t)
  fills_on d e f =
      record {
        same_fields = (field_on b t d e).0 ∙ ap (grown b) (f.same_fields ∙ ap (meant_at (suc k)) (cut s).first)
            ∙ sym (ap (meant_at (suc k)) ((field_on b s d e).0 ∙ ap (grown b) (cut s).first));
        same_end = (field_on b t d e).1 ∙ f.same_end ∙ sym (field_on b s d e).1;
      }

-- the line ends before field seven
fills_over : (k : ℕ) (s : List ℕ) → fields s ≡ [] ∷ [] → Fills (suc k) s s
fills_over k s over = record { same_fields = over ∙ sym (ap (meant_at (suc k)) over); same_end = refl }

pub fills : (k : ℕ) (s : List ℕ) → Fills k s (filled s (gap_at s (begins k s)))
unfolding begins fields
fills zero s = fills_first s
fills (suc k) [] = subst⁻¹ (Fills (suc k) []) (filling_past [] 1 (omega arith)) (fills_over k [] refl)
fills (suc k) (b ∷ s) = by_byte (fills k s) (fills (suc k) s) (eqb b lf) refl (eqb b semicolon) refl
  where
    by_byte : Fills k s (filled s (gap_at s (begins k s))) → Fills (suc k) s (filled s (gap_at s (begins (suc k) s)))
        → (x : Bool) → eqb b lf ≡ x → (y : Bool) → eqb b semicolon ≡ y → Fills (suc k) (b ∷ s) (filled (b ∷ s) (gap_at (b ∷ s) (begins (suc k) (b ∷ s))))
    by_byte next on true e y e' =
        let far : gap_at (b ∷ s) (begins (suc k) (b ∷ s)) ≡ gap_at (b ∷ s) (length s + 2) = simp e in
        subst⁻¹ (Fills (suc k) (b ∷ s)) (ap (filled (b ∷ s)) far ∙ filling_past (b ∷ s) (length s + 2) (omega arith)) (fills_over k (b ∷ s) (line_over b s e))
    by_byte next on false e true e' =
        let here : gap_at (b ∷ s) (begins (suc k) (b ∷ s)) ≡ gap_at (b ∷ s) (suc (begins k s)) = simp (e, e') in
        subst⁻¹ (Fills (suc k) (b ∷ s)) (ap (filled (b ∷ s)) here ∙ filling_after b s (begins k s)) (fills_field k b s _ e e' next)
    by_byte next on false e false e' =
        let here : gap_at (b ∷ s) (begins (suc k) (b ∷ s)) ≡ gap_at (b ∷ s) (suc (begins (suc k) s)) = simp (e, e') in
        subst⁻¹ (Fills (suc k) (b ∷ s)) (ap (filled (b ∷ s)) here ∙ filling_after b s (begins (suc k) s)) (fills_on k b s _ e e' on)
