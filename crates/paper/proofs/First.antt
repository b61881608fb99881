-- Where a scan refuses: at the first with a fault; or none has one, and what follows refuses. Assumes nothing.
use mathlib.Core.Path.{◌≡◌, refl, ap, ap₂, ◌∙◌, sym}
use mathlib.Core.Logic.{◌⊎◌, inl, inr, ⊎_elim}
use mathlib.Core.List.{List, [], ◌∷◌}
use Prim.Native.Nat.{ℕ, zero, suc, ◌+◌, ◌<◌}
use native.Mathlib.Nat.{add-zero, add-suc, suc-add}
use native.Mathlib.Decide.{ℕ_discrete}
use native.Mathlib.Omega.{arith}
use lib.ListN.{length, get_or}
use Rattle.paper.specs.Outcome.{Outcome, refused, passed, scan}
use Rattle.paper.proofs.Scan.{fault_taken, fault_none}

pub record FirstFault {A : Type 0} (fault : A → ℕ) (es : List A) (d : A) (number j : ℕ) : Type 0 where
  pub below : j < length es
  pub is : fault (get_or es j d) ≡ number
  pub some : number ≡ 0 → ⊥
  pub before : (k : ℕ) → k < j → fault (get_or es k d) ≡ 0

module _ {A B : Type 0} (fault : A → ℕ) (d : A) (rest : Outcome B) where
  pub first_refuses : (i j number : ℕ) (es : List A) → FirstFault fault es d number j → scan fault i es rest ≡ refused number (i + j)
  first_refuses i j number [] f = absurd (omega (arith, f.below))
  first_refuses i zero number (e ∷ es) f =
      fault_taken (fault e) i _ (λ none. f.some (sym f.is ∙ none)) ∙ ap₂ refused f.is (sym (add-zero i))
  first_refuses i (suc j) number (e ∷ es) f =
      let later : FirstFault fault es d number j =
      record { below = omega (arith, f.below); is = f.is; some = f.some; before = λ k less. f.before (suc k) (omega arith) } in
      fault_none (fault e) i _ (f.before 0 (omega arith)) ∙ first_refuses (suc i) j number es later ∙ ap (refused number) (suc-add i j ∙ sym (add-suc i j))

  -- the two ways to refuse
  abbrev Refuses : ℕ → ℕ → ℕ → List A → Type 0
  Refuses i number place es =
      ((j : ℕ) × ((place ≡ i + j) × FirstFault fault es d number j)) ⊎ ((scan fault i es passed ≡ passed) × (rest ≡ refused number place))

  one_more : (i number place : ℕ) (e : A) (es : List A) → scan fault i (e ∷ es) rest ≡ refused number place → Dec (fault e ≡ 0)
      → (scan fault (suc i) es rest ≡ refused number place → Refuses (suc i) number place es) → Refuses i number place (e ∷ es)
  one_more i number place e es h (no some) later =
      let same : refused (fault e) i ≡ refused number place = sym (fault_taken (fault e) i _ some) ∙ h in
      let is : fault e ≡ number = cc in
      let here : i ≡ place = cc in
      inl (0, (sym here ∙ sym (add-zero i), record { below = omega arith; is = is; some = λ none. some (is ∙ none); before = λ k less. absurd (omega arith) }))
  one_more i number place e es h (yes none) later = ⊎_elim found onward (later (sym (fault_none (fault e) i _ none) ∙ h))
    where
      earlier : (j : ℕ) → FirstFault fault es d number j → (k : ℕ) → k < suc j → fault (get_or (e ∷ es) k d) ≡ 0
      earlier j f zero less = none
      earlier j f (suc k) less = f.before k (omega arith)

      found : ((j : ℕ) × ((place ≡ suc i + j) × FirstFault fault es d number j)) → Refuses i number place (e ∷ es)
      found (j, (at, f)) =
          inl (suc j, (at ∙ suc-add i j ∙ sym (add-suc i j), record { below = omega (arith, f.below); is = f.is; some = f.some; before = earlier j f }))

      onward : ((scan fault (suc i) es passed ≡ passed) × (rest ≡ refused number place)) → Refuses i number place (e ∷ es)
      onward (passes, refuses) = inr (fault_none (fault e) i _ none ∙ passes, refuses)

  pub refuses_first : (i number place : ℕ) (es : List A) → scan fault i es rest ≡ refused number place → Refuses i number place es
  refuses_first i number place [] h = inr (refl, h)
  refuses_first i number place (e ∷ es) h = one_more i number place e es h (ℕ_discrete (fault e) 0) (refuses_first (suc i) number place es)
