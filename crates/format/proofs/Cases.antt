-- What holds of an outcome, whichever it is: one thing of a value, another of a refusal; it is shown test by test. Assumes nothing.
use mathlib.Core.Path.{◌≡◌, refl, subst}
use mathlib.Core.Bool.{Bool, true, false, cond}
use Prim.Native.Nat.{ℕ}
use Rattle.paper.specs.Outcome.{Outcome, accepted, refused, refuse_when_at, mapped, and_then}

-- the value has P, the refusal's number and place have Q
pub data Either {A : Type 0} (P : A → Type 0) (Q : ℕ → ℕ → Type 0) : Outcome A → Type 0 where
  value : {a : A} → P a → Either P Q (accepted a)
  fault : {number place : ℕ} → Q number place → Either P Q (refused number place)

module _ {A : Type 0} {P : A → Type 0} {Q : ℕ → ℕ → Type 0} where
  pub when : (t : Bool) (number place : ℕ) (o : Outcome A) → Q number place → (t ≡ false → Either P Q o) → Either P Q (refuse_when_at t number place o)
  when true number place o wrong rest = fault wrong
  when false number place o wrong rest = rest refl

  pub choose : (t : Bool) (o p : Outcome A) → (t ≡ true → Either P Q o) → (t ≡ false → Either P Q p) → Either P Q (cond t o p)
  choose true o p first second = first refl
  choose false o p first second = second refl

  pub next : {B : Type 0} {P' : B → Type 0} (o : Outcome A) (f : A → Outcome B)
      → Either P Q o → ((a : A) → P a → Either P' Q (f a)) → Either P' Q (and_then o f)
  next _ f (value has) later = later _ has
  next _ f (fault wrong) later = fault wrong

  pub of_fault : {o : Outcome A} (number place : ℕ) → Either P Q o → o ≡ refused number place → Q number place
  of_fault number place all is = by (subst (Either P Q) is all)
    where
      by : Either P Q (refused number place) → Q number place
      by (fault wrong) = wrong

  pub wider : {Q' : ℕ → ℕ → Type 0} {o : Outcome A} → Either P Q o → ((number place : ℕ) → Q number place → Q' number place) → Either P Q' o
  wider (value has) onward = value has
  wider (fault wrong) onward = fault (onward _ _ wrong)

  pub under : {B : Type 0} {P' : B → Type 0} {o : Outcome A} (g : A → B) → Either P Q o → ((a : A) → P a → P' (g a)) → Either P' Q (mapped g o)
  under g (value has) onward = value (onward _ has)
  under g (fault wrong) onward = fault wrong
