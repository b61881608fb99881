-- A call that fulfils its outcome is decided, since its answer and its memory are; a refusal leaves the memory as it was, and an accepted call its result
-- there. Assumes nothing.
use mathlib.Core.Path.{◌≡◌, refl, ap, ◌∙◌, sym}
use Prim.Native.Nat.{ℕ}
use Rattle.paper.specs.Outcome.{Outcome, accepted, refused, mapped}
use Rattle.paper.specs.Memory.{left, Fulfils, Decided, Spared}
use Rattle.paper.proofs.Scan.{never}

module _ {R S A M : Type 0} (reading : R → S) (shows : Outcome A → S) (put : A → M → M) (due : Outcome A) (m : M) where
  pub decided : ((r s : R) → reading r ≡ reading s → r ≡ s) → Decided (λ r m'. Fulfils reading shows put due r m m')
  decided determined r s a b f g = (determined r s (f.answer ∙ sym g.answer), f.memory ∙ sym g.memory)

-- an outcome that is shown refused is refused
shown_refused : {A B : Type 0} (shown : A → B) (o : Outcome A) (number place : ℕ) → mapped shown o ≡ refused number place → o ≡ refused number place
shown_refused shown (accepted a) number place h = cc
shown_refused shown (refused number' place') number place h = cc

module _ {R A B M : Type 0} (reading : R → Outcome B) (shown : A → B) (put : A → M → M) (due : Outcome A) (m : M) where
  pub spared : Spared reading m (λ r m'. Fulfils reading (mapped shown) put due r m m')
  spared r m' number place f h =
      f.memory ∙ ap (λ (o : Outcome A). left put o m) (shown_refused shown due number place (sym f.answer ∙ h))

-- ---- one way out at a time
module _ {R A B M : Type 0} (reading : R → Outcome B) (shown : A → B) (put : A → M → M) (due : Outcome A) (r : R) (m : M) where
  pub refuses : (number place : ℕ) → due ≡ refused number place → reading r ≡ refused number place → Fulfils reading (mapped shown) put due r m m
  refuses number place is said =
      record {
        answer = said ∙ sym (ap (mapped shown) is);
        memory = sym (ap (λ (o : Outcome A). left put o m) is);
      }

  pub accepts : (a : A) (m' : M) → due ≡ accepted a → reading r ≡ accepted (shown a) → m' ≡ put a m → Fulfils reading (mapped shown) put due r m m'
  accepts a m' is said kept =
      record {
        answer = said ∙ sym (ap (mapped shown) is);
        memory = kept ∙ sym (ap (λ (o : Outcome A). left put o m) is);
      }

-- ---- over another interface: what is shown there of the outcome is g of what the answer's reading shows
module _ {R Q A B M : Type 0} (reading : R → Outcome B) (shown : A → B) (put : A → M → M) (due : Outcome A) (g : Outcome B → Q) where
  pub carried : (a : R) (r : Q) (m m' : M) → r ≡ g (reading a) → Fulfils reading (mapped shown) put due a m m'
      → Fulfils (λ (q : Q). q) (λ o. g (mapped shown o)) put due r m m'
  carried a r m m' e f = record { answer = e ∙ ap g f.answer; memory = f.memory }

-- ---- what an accepted answer tells: the outcome's result, and that it stands in the memory
shown_accepted : {A B : Type 0} (shown : A → B) (o : Outcome A) (b : B) → mapped shown o ≡ accepted b → (a : A) × ((o ≡ accepted a) × (shown a ≡ b))
shown_accepted shown (accepted a) b h = let same : shown a ≡ b = cc in (a, (refl, same))
shown_accepted shown (refused number place) b h = never b number place h

module _ {R A B M : Type 0} (reading : R → Outcome B) (shown : A → B) (put : A → M → M) (due : Outcome A) (r : R) (m m' : M) where
  pub gave : (b : B) → Fulfils reading (mapped shown) put due r m m' → reading r ≡ accepted b
      → (a : A) × ((due ≡ accepted a) × ((shown a ≡ b) × (m' ≡ put a m)))
  gave b f e =
      let given = shown_accepted shown due b (sym f.answer ∙ e) in
      (given.0, (given.1.0, (given.1.1, f.memory ∙ ap (λ (o : Outcome A). left put o m) given.1.0)))
