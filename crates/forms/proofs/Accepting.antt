-- An order that is accepted has passed each test, and a line that passes each test is accepted, with the form of its numbers. Assumes nothing.
use mathlib.Core.Path.{◌≡◌, refl, ap, ◌∙◌}
use mathlib.Core.Bool.{Bool, true, false, not, ◌&&◌, true≢false}
use mathlib.Core.List.{List}
use Prim.Native.Nat.{ℕ, zero, suc, ◌+◌, ◌-◌, ◌*◌, ◌^◌, ◌≤◌, ◌<◌}
use native.Mathlib.Omega.{arith}
use lib.Dec.{eqb, leb, ltb}
use lib.ListN.{length}
use borrow.Author.Tests.{eq-eqb, ne_eqb, lt-leb, le-ltb, eqb-true, ltb-false, not-false}
use Rattle.paper.specs.Outcome.{Outcome, accepted, fault_when, scan, rows}
use Rattle.paper.proofs.Scan.{fault_none, accepted_of}
use Rattle.paper.proofs.Tests.{passed_by, no_fault}
use Rattle.tree.specs.Anchors.{HIGHEST}
use Rattle.leaves.specs.Leaves.{CHILDREN}
use Rattle.leaves.specs.Calls.{limit, most, out_of_range}
use Rattle.fields.specs.Fields.{fields, ended, is_number}
use Rattle.fields.proofs.Coming.{closed}
use Rattle.forms.specs.declared.Form.{Form}
use Rattle.forms.specs.Forms.{given, number_in, outside, fault, form_in, in_order, read}
use Rattle.forms.proofs.Taking.{sound_number}
use Rattle.forms.proofs.Bounds.{in_field, parts, form_clean}

-- ---- an order that is accepted
both : (a b : Bool) → not (a && b) ≡ false → (a ≡ true) × (b ≡ true)
both true b h = (refl, not-false b h)
both false b h = absurd (true≢false h)

module _ (s : List ℕ) (f : Form) (is : read s ≡ accepted f) where
  pub form_whole : (length (fields s) ≡ 7) × (ended s ≡ true)
  form_whole =
      let last = (accepted_of (not (closed s 7)) 23 8 (accepted (form_in (fields s))) f (parts s f is).1).0 in
      let whole = both (eqb (length (fields s)) 7) (ended s) last in
      (eqb-true (length (fields s)) 7 whole.0, whole.1)

  pub form_number : (i : ℕ) → 1 ≤ i → i ≤ 7 → is_number (given (fields s) i) ≡ true
  form_number i low high = not-false (is_number (given (fields s) i)) (in_field (fields s) i (form_clean s f is i low (omega arith))).0

  pub form_highest : number_in (fields s) 5 ≤ HIGHEST
  form_highest =
      let five = (in_field (fields s) 5 (form_clean s f is 5 (omega arith) (omega arith))).1 in
      ltb-false HIGHEST (number_in (fields s) 5) (no_fault (ltb HIGHEST (number_in (fields s) 5)) 0 0 five).0

  pub form_not_above : number_in (fields s) 7 ≤ number_in (fields s) 5
  form_not_above =
      let seven = (in_field (fields s) 7 (form_clean s f is 7 (omega arith) (omega arith))).1 in
      ltb-false (number_in (fields s) 5) (number_in (fields s) 7) (no_fault (ltb (number_in (fields s) 5) (number_in (fields s) 7)) 22 _ seven).0

-- ---- a line that passes each test
scan_clean : {A : Type 0} (fault : ℕ → ℕ) (i k : ℕ) (rest : Outcome A) → ((j : ℕ) → i ≤ j → j < i + k → fault j ≡ 0)
    → scan fault i (rows (λ j. j) i k) rest ≡ rest
scan_clean fault i zero rest clean = refl
scan_clean fault i (suc k) rest clean =
    fault_none (fault i) i _ (clean i (omega arith) (omega arith))
    ∙ scan_clean fault (suc i) k rest (λ j low high. clean j (omega arith) (omega arith))

-- a test for one field alone
fault_unless : (here bad : Bool) (number rest : ℕ) → (here ≡ true → bad ≡ false) → rest ≡ 0 → fault_when (here && bad) number rest ≡ 0
fault_unless true bad number rest good later = ap (λ (t : Bool). fault_when t number rest) (good refl) ∙ later
fault_unless false bad number rest good later = later

outside_clean : (i v K L : ℕ) → (i ≡ 4 → out_of_range v ≡ false) → (i ≡ 5 → ltb HIGHEST v ≡ false) → (i ≡ 6 → out_of_range v ≡ false)
    → (i ≡ 7 → ltb L v ≡ false) → (i ≡ 7 → ltb limit (K * CHILDREN ^ v) ≡ false) → outside i v K L ≡ 0
outside_clean i v K L four five six seven few =
    fault_unless (eqb i 4) (out_of_range v) 17 _ (λ t. four (eqb-true i 4 t))
    (fault_unless (eqb i 5) (ltb HIGHEST v) 1 _ (λ t. five (eqb-true i 5 t))
    (fault_unless (eqb i 6) (out_of_range v) 17 _ (λ t. six (eqb-true i 6 t))
    (fault_unless (eqb i 7) (ltb L v) 23 _ (λ t. seven (eqb-true i 7 t))
    (fault_unless (eqb i 7) (ltb limit (K * CHILDREN ^ v)) 15 0 (λ t. few (eqb-true i 7 t)) refl))))

count_clean : (v : ℕ) → 1 ≤ v → v ≤ most → out_of_range v ≡ false
count_clean v some few = simp (ne_eqb v 0 (λ none. omega (arith, none)), le-ltb most v few)

module _ (fs : List (List ℕ)) (seven : length fs ≡ 7) (numbers : (i : ℕ) → 1 ≤ i → i ≤ 7 → is_number (given fs i) ≡ true)
    (some_root : 1 ≤ number_in fs 4) (few_roots : number_in fs 4 ≤ most) (shallow : number_in fs 5 ≤ HIGHEST)
    (some_share : 1 ≤ number_in fs 6) (few_shares : number_in fs 6 ≤ most)
    (not_above : number_in fs 7 ≤ number_in fs 5) (few_leaves : number_in fs 4 * CHILDREN ^ number_in fs 7 ≤ limit) where
  field_clean : (i : ℕ) → 1 ≤ i → i < 8 → fault fs i ≡ 0
  field_clean i low high =
      sound_number (leb (length fs) (i - 1)) (is_number (given fs i)) _ (lt-leb (length fs) (i - 1) (omega arith)) (numbers i low (omega arith))
      ∙ outside_clean i (number_in fs i) (number_in fs 4) (number_in fs 5)
      (λ is. ap (λ (j : ℕ). out_of_range (number_in fs j)) is ∙ count_clean (number_in fs 4) some_root few_roots)
      (λ is. ap (λ (j : ℕ). ltb HIGHEST (number_in fs j)) is ∙ le-ltb HIGHEST (number_in fs 5) shallow)
      (λ is. ap (λ (j : ℕ). out_of_range (number_in fs j)) is ∙ count_clean (number_in fs 6) some_share few_shares)
      (λ is. ap (λ (j : ℕ). ltb (number_in fs 5) (number_in fs j)) is ∙ le-ltb (number_in fs 5) (number_in fs 7) not_above)
      (λ is. ap (λ (j : ℕ). ltb limit (number_in fs 4 * CHILDREN ^ number_in fs j)) is ∙ le-ltb limit (number_in fs 4 * CHILDREN ^ number_in fs 7) few_leaves)

  pub in_order_lem : (whole : Bool) → whole ≡ true → in_order fs whole ≡ accepted (form_in fs)
  in_order_lem whole is =
      scan_clean (fault fs) 1 7 _ field_clean
      ∙ passed_by (not (eqb (length fs) 7 && whole)) 23 8 (accepted (form_in fs)) (simp (eq-eqb (length fs) 7 seven, is))
