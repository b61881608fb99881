-- The refusals of the element calls, over any shape: the checks on an element have their numbers, and across a face it is 10. Assumes nothing.
use mathlib.Core.Path.{◌≡◌, sym, subst}
use mathlib.Core.Logic.{◌⊎◌, inl, inr}
use mathlib.Core.Bool.{Bool, not}
use mathlib.Core.List.{List, [], ◌∷◌, Memᴰ}
use Prim.Native.Nat.{ℕ, ◌+◌, ◌^◌, ◌≤◌}
use native.Mathlib.Omega.{arith}
use lib.Dec.{leb, ltb, eqb}
use lib.ListN.{length}
use borrow.Author.Tests.{le-ltb}
use Rattle.paper.specs.Outcome as outcomes
use Rattle.paper.specs.Outcome.{Outcome, accepted, refused}
use Rattle.paper.specs.Refusals.{outcome_of, ordering_of}
use Rattle.paper.proofs.Tests.{passed_by}
use Rattle.paper.proofs.Scan.{fault_none}
use Rattle.tree.specs.Shape.{Shape}
use Rattle.tree.specs.Laws.{Sound}
use Rattle.tree.proofs.Call.{checked_sound, descendant_refused_1}
use Rattle.tree.proofs.Accepting.{sound_each}
use Rattle.tree.specs.Words
use Rattle.tree.specs.Calls as calls
use Rattle.promises.specs.Refusals.{Refuses}
use Rattle.promises.specs.Demand1.{OnElements}
use Rattle.promises.specs.Demand2.{HandedBack}
use Rattle.promises.proofs.Refusals.{Known, fine, refusal, when, fault_at, in_turn, wider, at0, at1, after}
use Rattle.promises.proofs.Calls.{Determined, answer}
use Rattle.promises.proofs.Determined.{results, comparisons}

-- what lies across a face, or that nothing does
abbrev pub Either : {E : Type 0} → Shape E → Type 0
Either {E} S = (e : E) (i : ℕ) → (S.neighbour e i ≡ refused 10 0) ⊎ ((f : E) × (S.neighbour e i ≡ accepted f))

across_so : {E : Type 0} (S : Shape E) → Either S → {ns : List ℕ} (e : E) (i : ℕ) → Memᴰ 10 ns → Refuses ns 0 (S.neighbour e i)
across_so {E} S across {ns} e i ten = by (across e i)
  where
    by : (S.neighbour e i ≡ refused 10 0) ⊎ ((f : E) × (S.neighbour e i ≡ accepted f)) → Refuses ns 0 (S.neighbour e i)
    by (inl none) = subst (Refuses ns 0) (sym none) (refusal 10 0 ten (omega arith))
    by (inr (f, is)) = subst (Refuses ns 0) (sym is) (fine f)

-- what each call can refuse by; fs are the numbers of the checks on an element
pub record Rows {E : Type 0} (S : Shape E) (faults : List ℕ) : Type 0 where
  pub at : (l p : ℕ) → Refuses (1 ∷ 5 ∷ []) 0 (calls.at S l p)
  pub position : (e : E) → Refuses faults 0 (calls.position S e)
  pub parent : (e : E) → Refuses (6 ∷ faults) 0 (calls.parent S e)
  pub child : (e : E) (i : ℕ) → Refuses (7 ∷ 8 ∷ faults) 0 (calls.child S e i)
  pub successor : (e : E) → Refuses (9 ∷ faults) 0 (calls.successor S e)
  pub descendant : (which : E → ℕ → E) (e : E) (l : ℕ) → Refuses (6 ∷ faults) 0 (calls.descendant S which e l)
  pub neighbour : (e : E) (i : ℕ) → Refuses (8 ∷ 10 ∷ faults) 0 (calls.neighbour S e i)
  pub family : (equal : Bool) (es : List E) → Refuses (11 ∷ faults) (length es) (calls.family S equal es)
  pub order : (e f : E) → Refuses faults 1 (calls.order S e f)
  pub check : (e : E) (place : ℕ) → Refuses faults place (outcomes.fault_at (S.fault e) place)
  pub across : (e : E) (i : ℕ) → Refuses (10 ∷ []) 0 (S.neighbour e i)

pub rows : {E : Type 0} (S : Shape E) (faults : List ℕ) → ((e : E) → Known faults (S.fault e)) → Memᴰ 1 faults → Either S → Rows S faults
rows S faults known deep across =
    record {
      at = λ l p. when (ltb S.highest l) 1 at0 (λ shallow. when (leb (S.children ^ l) p) 5 at1 (λ inside. fine (Words.element_at S l p)));
      position = λ e. fault_at (S.fault e) 0 (known e) (omega arith) (fine (Words.position S e));
      parent = λ e. fault_at (S.fault e) 0 (wider 6 (known e)) (omega arith) (when (eqb (S.level e) 0) 6 at0 (λ down. fine (S.parent e)));
      child = λ e i.
          fault_at (S.fault e) 0 (wider 7 (wider 8 (known e))) (omega arith)
          (when (leb S.highest (S.level e)) 7 at0 (λ higher. when (leb S.children i) 8 at1 (λ few. fine (S.child e i))));
      successor = λ e.
          fault_at (S.fault e) 0 (wider 9 (known e)) (omega arith)
          (when (eqb (Words.position S e + 1) (S.children ^ S.level e)) 9 at0 (λ another. fine (Words.successor S e)));
      descendant = λ which e l.
          fault_at (S.fault e) 0 (wider 6 (known e)) (omega arith)
          (when (ltb S.highest l) 1 (after deep) (λ shallow. when (ltb l (S.level e)) 6 at0 (λ down. fine (which e l))));
      neighbour = λ e i.
          fault_at (S.fault e) 0 (wider 8 (wider 10 (known e))) (omega arith) (when (leb S.faces i) 8 at0 (λ few. across_so S across e i at1));
      family = λ equal es.
          when (not equal) 11 at0 (λ long. in_turn S.fault 0 es (λ e inside. wider 11 (known e)) (omega arith) (fine (Words.family S es)));
      order = λ e f. in_turn S.fault 0 (e ∷ f ∷ []) (λ g inside. known g) (omega arith) (fine (Words.order S e f));
      check = λ e place. fault_at (S.fault e) place (known e) (omega arith) (fine tt);
      across = λ e i. across_so S across e i at0;
    }

pub on_elements : {E : Type 0} (S : Shape E) (faults : List ℕ) → Rows S faults → OnElements S faults
on_elements S faults refuses =
    record {
      at = λ l p. answer outcome_of results (refuses.at l p);
      position = λ e. answer outcome_of results (refuses.position e);
      parent = λ e. answer outcome_of results (refuses.parent e);
      child = λ e i. answer outcome_of results (refuses.child e i);
      successor = λ e. answer outcome_of results (refuses.successor e);
      first = λ e l. answer outcome_of results (refuses.descendant (Words.first S) e l);
      last = λ e l. answer outcome_of results (refuses.descendant (Words.last S) e l);
      neighbour = λ e i. answer outcome_of results (refuses.neighbour e i);
      family = λ equal es. answer outcome_of results (refuses.family equal es);
      order = λ e f. answer ordering_of comparisons (refuses.order e f);
      check = λ e place. answer outcome_of results (refuses.check e place);
      across = λ e i. answer outcome_of results (refuses.across e i);
    }

-- ---- a sound element handed back
module _ {E : Type 0} (S : Shape E) (across : Either S) where
  -- it passes the checks
  back : {A : Type 0} {ns : List ℕ} (e : E) (o : Outcome A) → Sound S e → Refuses ns 0 o → Refuses ns 0 (calls.checked S e o)
  back {ns = ns} e o sound rest = subst (Refuses ns 0) (sym (checked_sound S e o sound)) rest

  descendant_back : (which : E → ℕ → E) (e : E) (l : ℕ) → Sound S e → l ≤ S.highest → Refuses (6 ∷ []) 0 (calls.descendant S which e l)
  descendant_back which e l sound shallow =
      back e _ sound
      (subst (Refuses (6 ∷ []) 0) (sym (passed_by (ltb S.highest l) 1 0 _ (le-ltb S.highest l shallow)))
      (when (ltb l (S.level e)) 6 at0 (λ down. fine (which e l))))

  pub handed_back : HandedBack S
  handed_back =
      record {
        position = λ e sound. back e _ sound (fine (Words.position S e));
        parent = λ e sound. back e _ sound (when (eqb (S.level e) 0) 6 at0 (λ deep. fine (S.parent e)));
        child = λ e i sound.
            back e _ sound (when (leb S.highest (S.level e)) 7 at0 (λ higher. when (leb S.children i) 8 at1 (λ few. fine (S.child e i))));
        successor = λ e sound.
            back e _ sound (when (eqb (Words.position S e + 1) (S.children ^ S.level e)) 9 at0 (λ another. fine (Words.successor S e)));
        first = descendant_back (Words.first S);
        last = descendant_back (Words.last S);
        first_too_deep = λ e l sound deep. descendant_refused_1 S e sound (Words.first S) l deep;
        last_too_deep = λ e l sound deep. descendant_refused_1 S e sound (Words.last S) l deep;
        neighbour = λ e i sound. back e _ sound (when (leb S.faces i) 8 at0 (λ few. across_so S across e i at1));
        family = λ equal es sound.
            when (not equal) 11 at0 (λ long.
            subst (Refuses (11 ∷ []) 0) (sym (sound_each S 0 es (accepted (Words.family S es)) sound)) (fine (Words.family S es)));
        order = λ e f first second.
            back e _ first (subst (Refuses [] 0) (sym (fault_none (S.fault f) 1 _ second)) (fine (Words.order S e f)));
      }
