-- Checks in turn: what a scan over the rows of lent columns makes of one row more, and what its end says of all of them.
-- Assumes nothing.
use mathlib.Core.Path.{◌≡◌, refl, ap, ap₂, ◌∙◌, sym}
use mathlib.Core.Bool.{Bool, true, false, not}
use mathlib.Core.List.{List, [], ◌∷◌}
use Prim.Native.Nat.{ℕ, zero, suc, ◌+◌, ◌-◌, ◌≤◌, ◌<◌}
use native.Mathlib.Nat.{add-zero, add-suc, suc-add}
use native.Mathlib.Numerals.{add-one}
use native.Mathlib.Omega.{arith}
use lib.Dec.{eqb}
use lib.ListN.{length, drop, get_or}
use lib.Seq.{drop-cons}
use borrow.Author.Tests.{eq-eqb, ne_eqb, eqb-true, not-false}
use Rattle.paper.specs.Outcome.{Outcome, accepted, passed, refused, refuse_when_at, fault_at, scan, rows}
use Rattle.paper.proofs.Tests.{passed_by}

-- ---- the rows of lent columns
module _ {A : Type 0} (entry : ℕ → A) where
  pub rows_next : (m i : ℕ) → i < m → rows entry i (m - i) ≡ entry i ∷ rows entry (i + 1) (m - (i + 1))
  rows_next m i inside =
      let more : m - i ≡ suc (m - (i + 1)) = omega arith in
      ap (rows entry i) more ∙ ap (λ (k : ℕ). entry i ∷ rows entry k (m - (i + 1))) (sym (add-one i))

  pub rows_done : (m i : ℕ) → m ≤ i → rows entry i (m - i) ≡ []
  rows_done m i past = let none : m - i ≡ 0 = omega arith in ap (rows entry i) none

  pub rows_length : (i k : ℕ) → length (rows entry i k) ≡ k
  rows_length i zero = refl
  rows_length i (suc k) = ap suc (rows_length (suc i) k)

-- a number that is not 0 is a fault; 0 is none
pub fault_taken : {A : Type 0} (number place : ℕ) (rest : Outcome A) → (number ≡ 0 → ⊥) → refuse_when_at (not (eqb number 0)) number place rest ≡ refused number place
fault_taken number place rest some = simp (ne_eqb number 0 some)

pub fault_none : {A : Type 0} (number place : ℕ) (rest : Outcome A) → number ≡ 0 → refuse_when_at (not (eqb number 0)) number place rest ≡ rest
fault_none number place rest none = simp (eq-eqb number 0 none)

pub never : {A B : Type 0} (a : B) (n p : ℕ) → ◌≡◌ {A = Outcome B} (refused n p) (accepted a) → A
never a n p h = absurd (let z : ◌≡◌ {A = ℕ} 0 1 = cc in omega arith)

-- equal outcomes have equal values, or equal numbers and places
pub accepted_same : {A : Type 0} (a b : A) → ◌≡◌ {A = Outcome A} (accepted a) (accepted b) → a ≡ b
accepted_same a b e = cc

pub refused_same : {A : Type 0} (n k m j : ℕ) → ◌≡◌ {A = Outcome A} (refused n k) (refused m j) → (n ≡ m) × (k ≡ j)
refused_same n k m j e = (cc, cc)

-- an accepted outcome passed the test, and so did the rest
pub accepted_of : {B : Type 0} (t : Bool) (n p : ℕ) (rest : Outcome B) (a : B) → refuse_when_at t n p rest ≡ accepted a → (t ≡ false) × (rest ≡ accepted a)
accepted_of true n p rest a h = never a n p h
accepted_of false n p rest a h = (refl, h)

pub accepted_by : (t : Bool) (n p : ℕ) (rest : Outcome (Unit {0})) → refuse_when_at t n p rest ≡ passed → (t ≡ false) × (rest ≡ passed)
accepted_by t n p rest = accepted_of t n p rest tt

-- a refusal by another number than the test's passed the test
pub other_refused : {B : Type 0} (t : Bool) (n p : ℕ) (rest : Outcome B) (m q : ℕ) → (n ≡ m → ⊥) → refuse_when_at t n p rest ≡ refused m q
    → (t ≡ false) × (rest ≡ refused m q)
other_refused true n p rest m q other h = absurd (other cc)
other_refused false n p rest m q other h = (refl, h)

-- a scan that refuses does so whatever would follow
pub carry : {B : Type 0} (t : Bool) (n p m q : ℕ) (short : Outcome (Unit {0})) (long : Outcome B) → (short ≡ refused m q → long ≡ refused m q)
    → refuse_when_at t n p short ≡ refused m q → refuse_when_at t n p long ≡ refused m q
carry true n p m q short long onward h =
    let number : n ≡ m = cc in
    let place : p ≡ q = cc in
    ap₂ refused number place
carry false n p m q short long onward h = onward h

-- one check that refuses does so whatever would follow
pub failed : {B : Type 0} (number place m q : ℕ) (rest : Outcome B) → refused m q ≡ fault_at number place
    → refused m q ≡ refuse_when_at (not (eqb number 0)) number place rest
failed number place m q rest h = sym (carry (not (eqb number 0)) number place m q passed rest (λ e. never tt m q (sym e)) (sym h))

-- an accepted scan passed, and so did what follows it
pub scan_accepted : {A B : Type 0} (fault : A → ℕ) (i : ℕ) (es : List A) (rest : Outcome B) (a : B) → scan fault i es rest ≡ accepted a
    → (scan fault i es passed ≡ passed) × (rest ≡ accepted a)
scan_accepted fault i [] rest a h = (refl, h)
scan_accepted fault i (e ∷ es) rest a h =
    let d = accepted_of (not (eqb (fault e) 0)) (fault e) i (scan fault (suc i) es rest) a h in
    let later = scan_accepted fault (suc i) es rest a d.1 in
    (passed_by _ (fault e) i (scan fault (suc i) es passed) d.0 ∙ later.0, later.1)

-- one check that passed found no fault
pub faultless : (number place : ℕ) → passed ≡ fault_at number place → number ≡ 0
faultless number place h =
    let d = accepted_by (not (eqb number 0)) number place passed (sym h) in
    eqb-true number 0 (not-false (eqb number 0) d.0)

-- a scan that passed: each is without fault
pub scan_each : {A : Type 0} (fault : A → ℕ) (i : ℕ) (es : List A) (d : A) (j : ℕ) → scan fault i es passed ≡ passed → j < length es → fault (get_or es j d) ≡ 0
scan_each fault i [] d j h below = absurd (omega arith)
scan_each fault i (e ∷ es) d zero h below =
    let a = accepted_by (not (eqb (fault e) 0)) (fault e) i (scan fault (suc i) es passed) h in
    eqb-true (fault e) 0 (not-false (eqb (fault e) 0) a.0)
scan_each fault i (e ∷ es) d (suc j) h below =
    let a = accepted_by (not (eqb (fault e) 0)) (fault e) i (scan fault (suc i) es passed) h in
    scan_each fault (suc i) es d j a.1 (omega arith)

-- and where each is, the scan passes
pub scan_sound : {A : Type 0} (fault : A → ℕ) (i : ℕ) (es : List A) (d : A) → ((j : ℕ) → j < length es → fault (get_or es j d) ≡ 0) → scan fault i es passed ≡ passed
scan_sound fault i [] d each = refl
scan_sound fault i (e ∷ es) d each =
    fault_none (fault e) i _ (each 0 (omega arith)) ∙ scan_sound fault (suc i) es d (λ j below. each (suc j) (omega arith))

-- ---- one entry more of a list, as a loop meets it
module _ {A B : Type 0} (fault : A → ℕ) (rest : Outcome B) (es : List A) (d : A) (i : ℕ) (inside : i < length es) where
  at_entry : scan fault i (drop i es) rest ≡ scan fault i (get_or es i d ∷ drop (i + 1) es) rest
  at_entry = ap (λ (l : List A). scan fault i l rest) (drop-cons es i d inside ∙ ap (λ (k : ℕ). get_or es i d ∷ drop k es) (sym (add-one i)))

  pub entry_found : (fault (get_or es i d) ≡ 0 → ⊥) → scan fault i (drop i es) rest ≡ refused (fault (get_or es i d)) i
  entry_found some = at_entry ∙ fault_taken (fault (get_or es i d)) i _ some

  pub entry_next : fault (get_or es i d) ≡ 0 → scan fault i (drop i es) rest ≡ scan fault (i + 1) (drop (i + 1) es) rest
  entry_next none =
      at_entry
      ∙ fault_none (fault (get_or es i d)) i _ none
      ∙ ap (λ (k : ℕ). scan fault k (drop (i + 1) es) rest) (sym (add-one i))

module _ {A B : Type 0} (fault : A → ℕ) where
  pub scan_passed : (i : ℕ) (es : List A) (rest : Outcome B) → scan fault i es passed ≡ passed → scan fault i es rest ≡ rest
  scan_passed i [] rest h = refl
  scan_passed i (e ∷ es) rest h =
      let d = accepted_by (not (eqb (fault e) 0)) (fault e) i (scan fault (suc i) es passed) h in
      passed_by _ (fault e) i (scan fault (suc i) es rest) d.0 ∙ scan_passed (suc i) es rest d.1

  pub scan_carry : (i n p : ℕ) (es : List A) (short : Outcome (Unit {0})) (long : Outcome B) → (short ≡ refused n p → long ≡ refused n p)
      → scan fault i es short ≡ refused n p → scan fault i es long ≡ refused n p
  scan_carry i n p [] short long onward h = onward h
  scan_carry i n p (e ∷ es) short long onward h =
      carry (not (eqb (fault e) 0)) (fault e) i n p (scan fault (suc i) es short) (scan fault (suc i) es long)
      (scan_carry (suc i) n p es short long onward) h

  pub scan_refused : (i n p : ℕ) (es : List A) (rest : Outcome B) → scan fault i es passed ≡ refused n p → scan fault i es rest ≡ refused n p
  scan_refused i n p es rest = scan_carry i n p es passed rest (λ e. never tt n p (sym e))

module _ {A : Type 0} (fault : A → ℕ) (entry : ℕ → A) where
  -- ---- one row more, of m rows, as a loop meets them
  module _ {B : Type 0} (m i : ℕ) (rest : Outcome B) (inside : i < m) where
    pub scan_step : fault (entry i) ≡ 0 → scan fault i (rows entry i (m - i)) rest ≡ scan fault (i + 1) (rows entry (i + 1) (m - (i + 1))) rest
    scan_step none =
        ap (λ (es : List A). scan fault i es rest) (rows_next entry m i inside)
        ∙ fault_none (fault (entry i)) i _ none
        ∙ ap (λ (k : ℕ). scan fault k (rows entry (i + 1) (m - (i + 1))) rest) (sym (add-one i))

    pub scan_found : (fault (entry i) ≡ 0 → ⊥) → scan fault i (rows entry i (m - i)) rest ≡ refused (fault (entry i)) i
    scan_found some = ap (λ (es : List A). scan fault i es rest) (rows_next entry m i inside) ∙ fault_taken (fault (entry i)) i _ some

    pub scan_stops : (n p : ℕ) → refused n p ≡ fault_at (fault (entry i)) i → scan fault i (rows entry i (m - i)) rest ≡ refused n p
    scan_stops n p h = ap (λ (es : List A). scan fault i es rest) (rows_next entry m i inside) ∙ sym (failed (fault (entry i)) i n p _ h)

  -- ---- the scan passed: every row is without fault
  pub scan_all : (i k j : ℕ) → scan fault i (rows entry i k) passed ≡ passed → j < k → fault (entry (i + j)) ≡ 0
  scan_all i zero j h below = absurd (omega arith)
  scan_all i (suc k) zero h below =
      let d = accepted_by (not (eqb (fault (entry i)) 0)) (fault (entry i)) i (scan fault (suc i) (rows entry (suc i) k) passed) h in
      ap (λ (m : ℕ). fault (entry m)) (add-zero i) ∙ eqb-true (fault (entry i)) 0 (not-false (eqb (fault (entry i)) 0) d.0)
  scan_all i (suc k) (suc j) h below =
      let d = accepted_by (not (eqb (fault (entry i)) 0)) (fault (entry i)) i (scan fault (suc i) (rows entry (suc i) k) passed) h in
      ap (λ (m : ℕ). fault (entry m)) (add-suc i j ∙ sym (suc-add i j)) ∙ scan_all (suc i) k j d.1 (omega arith)
