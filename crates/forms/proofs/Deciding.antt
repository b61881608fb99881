-- The fields from left to right: where each so far is without fault, what is decided hangs on the rest. Assumes nothing.
use mathlib.Core.Path.{◌≡◌, refl, ap, ap₂, ◌∙◌, sym, subst}
use mathlib.Core.Bool.{Bool, true, false, not}
use mathlib.Core.List.{List}
use Prim.Native.Nat.{ℕ, suc, ◌+◌, ◌-◌, ◌≤◌, ◌<◌}
use native.Mathlib.Omega.{arith}
use lib.Dec.{eqb, ltb}
use lib.ListN.{length}
use borrow.Author.Tests.{eqb-true, eqb-false, ltb-false}
use Rattle.paper.specs.Outcome.{Outcome, accepted, refused, refuse_when_at, scan, rows, passed}
use Rattle.paper.proofs.Scan.{never, refused_same, scan_step, scan_found}
use Rattle.forms.specs.declared.Form.{Form}
use Rattle.fields.specs.Fields.{fields, is_number, value}
use Rattle.forms.specs.Forms.{given, number_in, outside, number_fault, fault, form_in, read}
use Rattle.fields.specs.Inner.{next}
use Rattle.forms.specs.Inner.{field_at, taken, checked}
use Rattle.forms.proofs.Taking.{is_number_by, none_by, sound_number, no_number, number_there}
use Rattle.fields.proofs.Onward.{come_step}
use Rattle.fields.proofs.Coming.{Come, come_start, closed, missing_test, field_at as come_field_at}

-- what is left to decide after the seventh field
abbrev pub lastly : List ℕ → Outcome Form
lastly s = refuse_when_at (not (closed s 7)) 23 8 (accepted (form_in (fields s)))

-- before field i
pub record Reading (s : List ℕ) (at end i : ℕ) : Type 0 where
  pub some : 1 ≤ i
  pub come : Come s (i - 1) at end
  pub scanned : read s ≡ scan (fault (fields s)) i (rows (λ j. j) i (8 - i)) (lastly s)
  pub sound : (j : ℕ) → 1 ≤ j → j < i → fault (fields s) j ≡ 0

pub reading_start : (s : List ℕ) → Reading s 0 0 1
reading_start s = record { some = omega arith; come = come_start s; scanned = refl; sound = λ j low high. absurd (omega arith) }

-- a check that refuses has a fault, and one that passes none
check_refused : {n i a b : ℕ} → refused a b ≡ checked n i → (n ≡ 0 → ⊥) × ((a ≡ n) × (b ≡ i))
check_refused {n} {i} {a} {b} e = by_test (eqb n 0) refl
  where
    by_test : (t : Bool) → eqb n 0 ≡ t → (n ≡ 0 → ⊥) × ((a ≡ n) × (b ≡ i))
    by_test true d = never tt a b (e ∙ simp d)
    by_test false d = (eqb-false n 0 d, refused_same a b n i (e ∙ simp d))

check_passed : (n i : ℕ) → passed ≡ checked n i → n ≡ 0
check_passed n i e = by_test (eqb n 0) refl
  where
    by_test : (t : Bool) → eqb n 0 ≡ t → n ≡ 0
    by_test true d = eqb-true n 0 d
    by_test false d = never tt n i (sym (e ∙ simp d))

module _ {s : List ℕ} {at end i : ℕ} (reading : Reading s at end i) (more : i < 8) where
  here : given (fields s) i ≡ field_at s at
  here = come_field_at s (i - 1) at end reading.come

  -- the field's fault, as the cursor finds it
  fault_here : fault (fields s) i
      ≡ number_fault (ltb (length s) at) (field_at s at) (outside i (number_in (fields s) i) (number_in (fields s) 4) (number_in (fields s) 5))
  fault_here =
      ap₂ (λ (x : Bool) (f : List ℕ). number_fault x f (outside i (number_in (fields s) i) (number_in (fields s) 4) (number_in (fields s) 5)))
      (missing_test s (i - 1) at end reading.come) here

  refused_here : {n : ℕ} → fault (fields s) i ≡ n → (n ≡ 0 → ⊥) → refused n i ≡ read s
  refused_here {n} is some =
      sym (reading.scanned ∙ scan_found (fault (fields s)) (λ j. j) 8 i (lastly s) more (λ none. some (sym is ∙ none)) ∙ ap (λ (m : ℕ). refused m i) is)

  pub reading_unfit : {a b : ℕ} → refused a b ≡ taken s at i → refused a b ≡ read s
  reading_unfit {a} {b} bad =
      let f = field_at s at in
      let none = none_by (is_number f) (value f, at + length f) 23 i bad in
      ap₂ refused none.1.0 none.1.1 ∙ refused_here (fault_here ∙ no_number _ _ _ none.0) (λ d. omega (arith, d))

  -- the number of the field is x, and it ends at e
  module _ {x e : ℕ} (good : accepted (x, e) ≡ taken s at i) where
    is : (is_number (field_at s at) ≡ true) × (◌≡◌ {A = ℕ × ℕ} (x, e) (value (field_at s at), at + length (field_at s at)))
    is = is_number_by (is_number (field_at s at)) (value (field_at s at), at + length (field_at s at)) 23 i good

    pub reading_number : x ≡ number_in (fields s) i
    reading_number = ap (λ (p : ℕ × ℕ). p.0) is.1 ∙ ap value (sym here)

    module _ {n : ℕ} (range : outside i (number_in (fields s) i) (number_in (fields s) 4) (number_in (fields s) 5) ≡ n) where
      fault_range : fault (fields s) i ≡ n
      fault_range = fault_here ∙ sound_number _ _ _ (number_there s at is.0) is.0 ∙ range

      pub reading_outside : {a b : ℕ} → refused a b ≡ checked n i → refused a b ≡ read s
      reading_outside bad = let refusal = check_refused bad in ap₂ refused refusal.1.0 refusal.1.1 ∙ refused_here fault_range refusal.0

      -- where the next field begins
      pub reading_step : passed ≡ checked n i → {at' : ℕ} → at' ≡ next s e → Reading s at' e (i + 1)
      reading_step fine {at'} begins =
          let low = reading.some in
          let back : suc (i - 1) ≡ i + 1 - 1 = omega arith in
          let none : fault (fields s) i ≡ 0 = fault_range ∙ check_passed n i fine in
          record {
            some = omega arith;
            come = rw begins (subst (λ (k : ℕ). Come s k (next s e) e) back
                (come_step s (i - 1) at end e reading.come (ltb-false (length s) at (number_there s at is.0)) (ap (λ (p : ℕ × ℕ). p.1) is.1)));
            scanned = reading.scanned ∙ scan_step (fault (fields s)) (λ j. j) 8 i (lastly s) more none;
            sound = λ j low high. by_fault none j (eqb j i) refl low high;
          }
        where
          by_fault : fault (fields s) i ≡ 0 → (j : ℕ) (t : Bool) → eqb j i ≡ t → 1 ≤ j → j < i + 1 → fault (fields s) j ≡ 0
          by_fault none j true d low high = ap (fault (fields s)) (eqb-true j i d) ∙ none
          by_fault none j false d low high = let other = eqb-false j i d in reading.sound j low (omega (arith, other))
