-- A call's answer is one where its reading determines it. Assumes nothing.
use mathlib.Core.Path.{◌≡◌, refl, ◌∙◌, sym, subst}
use mathlib.Core.List.{List}
use Prim.Native.Nat.{ℕ}
use Rattle.paper.specs.Outcome.{Outcome, mapped}
use Rattle.paper.specs.Memory.{Fulfils}
use Rattle.paper.proofs.Memory.{decided, spared}
use Rattle.promises.specs.Refusals.{Refuses}
use Rattle.promises.specs.Demand1.{Call, Answer}
use Rattle.promises.proofs.Refusals.{mapped_so}

-- two answers with the same reading are the same answer
abbrev pub Determined : {A B : Type 0} → (A → B) → Type 0
Determined {A} f = (r s : A) → f r ≡ f s → r ≡ s

module _ {R A : Type 0} (reading : R → Outcome A) (determined : Determined reading) where
  pub answer : {ns : List ℕ} {most : ℕ} {due : Outcome A} → Refuses ns most due → Answer reading ns most due
  answer {ns} {most} refusals =
      record {
        one = λ r s m m' f g. (determined r s (f ∙ sym g), refl);
        spared = λ r m number place f h. refl;
        refusals = λ r m f. subst (Refuses ns most) (sym f) refusals;
      }

module _ {R A B M : Type 0} (reading : R → Outcome B) (determined : Determined reading) (shown : A → B) (put : A → M → M) where
  pub lent : {ns : List ℕ} {most : ℕ} {due : Outcome A} {m : M} → Refuses ns most due
      → Call reading ns most m (λ r m'. Fulfils reading (mapped shown) put due r m m')
  lent {ns} {most} {due} {m} refusals =
      record {
        one = decided reading (mapped shown) put due m determined;
        spared = spared reading shown put due m;
        refusals = λ r m' f. subst (Refuses ns most) (sym f.answer) (mapped_so shown due refusals);
      }
