-- Ways out of the calls, in the paper's order, each a law that a function's proof cites or another law rests on.
-- Each follows from the tests that led there. Assumes nothing.
use Rattle.std.proofs.Common.{◌≡◌, ℕ, ◌+◌, ◌^◌, ◌<◌, ◌≤◌, Bool, true, List, sym, ap, ◌∙◌, le-ltb, lt-ltb, eq-eqb, ne_eqb, le-leb}
use borrow.Author.Tests.{lt-leb}
use Rattle.paper.specs.Outcome.{Outcome, accepted, passed, refused, checks}
use Rattle.paper.proofs.Scan.{fault_taken, fault_none, scan_passed, scan_refused}
use Rattle.tree.specs.Shape.{Shape}
use Rattle.tree.specs.Laws.{Sound}
use Rattle.tree.specs.Words
use Rattle.tree.specs.Calls

module _ {E : Type 0} (S : Shape E) where
  -- ---- the checks on an element, with the number that the code found
  pub faulty : {A : Type 0} (number : ℕ) (e : E) (rest : Outcome A) → number ≡ S.fault e → (number ≡ 0 → ⊥) → refused number 0 ≡ Calls.checked S e rest
  faulty number e rest found some =
      ap (λ (k : ℕ). refused k 0) found ∙ sym (fault_taken (S.fault e) 0 rest (λ none. some (found ∙ none)))

  pub checked_sound : {A : Type 0} (e : E) (rest : Outcome A) → Sound S e → Calls.checked S e rest ≡ rest
  checked_sound e rest sound = fault_none (S.fault e) 0 rest sound

  -- ---- element at a position
  module _ (l p : ℕ) where
    pub at_refused_5 : l ≤ S.highest → S.children ^ l ≤ p → Calls.at S l p ≡ refused 5 0
    at_refused_5 shallow beyond = simp (le-ltb S.highest l shallow, le-leb (S.children ^ l) p beyond)

    pub at_accepted : l ≤ S.highest → p < S.children ^ l → Calls.at S l p ≡ accepted (Words.element_at S l p)
    at_accepted shallow below = simp (le-ltb S.highest l shallow, lt-leb (S.children ^ l) p below)

  module _ (e : E) (sound : Sound S e) where
    -- ---- position, parent, child
    pub position_accepted : Calls.position S e ≡ accepted (Words.position S e)
    position_accepted = checked_sound e _ sound

    pub parent_accepted : (S.level e ≡ 0 → ⊥) → Calls.parent S e ≡ accepted (S.parent e)
    parent_accepted deep = checked_sound e _ sound ∙ simp (ne_eqb (S.level e) 0 deep)

    module _ (i : ℕ) where
      pub child_accepted : S.level e < S.highest → i < S.children → Calls.child S e i ≡ accepted (S.child e i)
      child_accepted room small = checked_sound e _ sound ∙ simp (lt-leb S.highest (S.level e) room, lt-leb S.children i small)

    -- ---- successor
    pub successor_refused_9 : Words.position S e + 1 ≡ S.children ^ S.level e → Calls.successor S e ≡ refused 9 0
    successor_refused_9 last = checked_sound e _ sound ∙ simp (eq-eqb (Words.position S e + 1) (S.children ^ S.level e) last)

    pub successor_accepted : (Words.position S e + 1 ≡ S.children ^ S.level e → ⊥) → Calls.successor S e ≡ accepted (Words.successor S e)
    successor_accepted more = checked_sound e _ sound ∙ simp (ne_eqb (Words.position S e + 1) (S.children ^ S.level e) more)

    -- ---- first and last descendant
    module _ (which : E → ℕ → E) (l : ℕ) where
      pub descendant_refused_1 : S.highest < l → Calls.descendant S which e l ≡ refused 1 0
      descendant_refused_1 deep = checked_sound e _ sound ∙ simp (lt-ltb S.highest l deep)

      pub descendant_accepted : l ≤ S.highest → S.level e ≤ l → Calls.descendant S which e l ≡ accepted (which e l)
      descendant_accepted shallow down = checked_sound e _ sound ∙ simp (le-ltb S.highest l shallow, le-ltb l (S.level e) down)

    -- ---- neighbour

    pub neighbour_across : (i : ℕ) → i < S.faces → Calls.neighbour S e i ≡ S.neighbour e i
    neighbour_across i small = checked_sound e _ sound ∙ simp (lt-leb S.faces i small)

  -- ---- order of two

  pub order_accepted : (e f : E) → Sound S e → Sound S f → Calls.order S e f ≡ accepted (Words.order S e f)
  order_accepted e f se sf = fault_none (S.fault e) 0 _ se ∙ fault_none (S.fault f) 1 _ sf

  -- ---- family: equal says whether the columns are equally long

  pub family_refused : (equal : Bool) (es : List E) (number place : ℕ) → equal ≡ true → checks S.fault es ≡ refused number place
      → Calls.family S equal es ≡ refused number place
  family_refused equal es number place h found = simp h (scan_refused S.fault 0 number place es _ found)

  pub family_accepted : (equal : Bool) (es : List E) → equal ≡ true → checks S.fault es ≡ passed → Calls.family S equal es ≡ accepted (Words.family S es)
  family_accepted equal es h clean = simp h (scan_passed S.fault 0 es _ clean)
