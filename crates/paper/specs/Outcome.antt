-- Document 01, "Refusal numbers": "A refusal returns its number and a place." Definitions only.
--
--   Outcome A              what a call answers: accepted with its value, or refused with a number and a place
--   refuse_when t k o      refused k where the test t holds, else o; "The place is 0 unless stated"
--   refuse_when_at t k i o the same with the place i
--   fault_when t k o       the number k where the test t holds, else o: a check that has not yet a place
--   mapped g o             the outcome o with its value under g
--   and_then o f           what f makes of the value of an accepted outcome; a refusal stays
--   scan f i es o          "checked in turn, place = index": refused at the first of es whose fault is not 0, else o
--   passed                 accepted, with no value
--   checks f es            the checks alone, with nothing after them
--   fault_at k i           one check alone, at the place i: refused k, or passed where k is 0
--   rows e i k             the k entries e i, e (i + 1), ..
--   Order                  less, same or greater
--
-- Assumes nothing.
use Rattle.std.specs.Prelude.{Bool, true, false, not, List, [], ◌∷◌, ℕ, zero, suc, eqb}

pub data Outcome (A : Type 0) : Type 0 where
  accepted : A → Outcome A
  refused : ℕ → ℕ → Outcome A

abbrev pub refuse_when_at : {A : Type 0} → Bool → ℕ → ℕ → Outcome A → Outcome A
refuse_when_at true number place rest = refused number place
refuse_when_at false number place rest = rest

abbrev pub refuse_when : {A : Type 0} → Bool → ℕ → Outcome A → Outcome A
refuse_when test number rest = refuse_when_at test number 0 rest

abbrev pub fault_when : Bool → ℕ → ℕ → ℕ
fault_when true number rest = number
fault_when false number rest = rest

abbrev pub mapped : {A B : Type 0} → (A → B) → Outcome A → Outcome B
mapped g (accepted a) = accepted (g a)
mapped g (refused number place) = refused number place

abbrev pub and_then : {A B : Type 0} → Outcome A → (A → Outcome B) → Outcome B
and_then (accepted a) f = f a
and_then (refused number place) f = refused number place

abbrev pub scan : {A B : Type 0} → (A → ℕ) → ℕ → List A → Outcome B → Outcome B
scan fault i [] rest = rest
scan fault i (e ∷ es) rest = refuse_when_at (not (eqb (fault e) 0)) (fault e) i (scan fault (suc i) es rest)

abbrev pub passed : Outcome (Unit {0})
passed = accepted tt

abbrev pub checks : {A : Type 0} → (A → ℕ) → List A → Outcome (Unit {0})
checks fault es = scan fault 0 es passed

abbrev pub fault_at : ℕ → ℕ → Outcome (Unit {0})
fault_at number place = refuse_when_at (not (eqb number 0)) number place passed

abbrev pub rows : {A : Type 0} → (ℕ → A) → ℕ → ℕ → List A
rows entry i zero = []
rows entry i (suc k) = entry i ∷ rows entry (suc i) k

pub data Order : Type 0 where
  less same greater : Order
