-- The refusals of an outcome, from those of its tests: each has its number and its place. Assumes nothing.
use mathlib.Core.Path.{◌≡◌, refl, ap, sym, subst}
use mathlib.Core.Logic.{◌⊎◌, inl, inr}
use mathlib.Core.Bool.{Bool, true, false, not, cond}
use mathlib.Core.List.Memᴰ
use mathlib.Core.List.{List, [], ◌∷◌, Memᴰ}
use Prim.Native.Nat.{ℕ, suc, ◌+◌, ◌≤◌}
use native.Mathlib.Omega.{arith}
use lib.Dec.{ltb, eqb}
use lib.ListN.{length}
use Rattle.paper.specs.Outcome.{Outcome, accepted, refused, refuse_when_at, fault_when, mapped, and_then, scan}
use Rattle.paper.specs.Memory.{room_for}
use Rattle.paper.proofs.Scan.{never, fault_none}
use Rattle.promises.specs.Refusals.{Refuses}

-- ---- where a number stands in a list
pub at0 : {k : ℕ} {ns : List ℕ} → Memᴰ k (k ∷ ns)
at0 = Memᴰ.head refl

pub after : {k n : ℕ} {ns : List ℕ} → Memᴰ k ns → Memᴰ k (n ∷ ns)
after inside = Memᴰ.tail inside

pub at1 : {k a : ℕ} {ns : List ℕ} → Memᴰ k (a ∷ k ∷ ns)
at1 = after at0

pub at2 : {k a b : ℕ} {ns : List ℕ} → Memᴰ k (a ∷ b ∷ k ∷ ns)
at2 = after at1

pub at3 : {k a b c : ℕ} {ns : List ℕ} → Memᴰ k (a ∷ b ∷ c ∷ k ∷ ns)
at3 = after at2

pub at4 : {k a b c d : ℕ} {ns : List ℕ} → Memᴰ k (a ∷ b ∷ c ∷ d ∷ k ∷ ns)
at4 = after at3

-- no fault, or one of the numbers
abbrev pub Known : List ℕ → ℕ → Type 0
Known ns k = (k ≡ 0) ⊎ Memᴰ k ns

-- the refusals of an outcome
module _ {A : Type 0} {ns : List ℕ} {most : ℕ} where
  pub fine : (a : A) → Refuses ns most (accepted a)
  fine a = record { number = λ number place e. never a number place (sym e); place = λ number place e. never a number place (sym e) }

  pub refusal : (k at : ℕ) → Memᴰ k ns → at ≤ most → Refuses {A = A} ns most (refused k at)
  refusal k at known low =
      record {
        number = λ number place e. Memᴰ.cast (sym (ap number_of e)) known;
        place = λ number place e. subst (λ (i : ℕ). i ≤ most) (ap place_of e) low;
      }
    where
      number_of : Outcome A → ℕ
      number_of (accepted a) = 0
      number_of (refused m j) = m

      place_of : Outcome A → ℕ
      place_of (accepted a) = 0
      place_of (refused m j) = j

  -- a test with a number of the list, and what follows where it fails
  pub when_at : (t : Bool) (k at : ℕ) {o : Outcome A} → Memᴰ k ns → (t ≡ true → at ≤ most) → (t ≡ false → Refuses ns most o)
      → Refuses ns most (refuse_when_at t k at o)
  when_at true k at known low rest = refusal k at known (low refl)
  when_at false k at known low rest = rest refl

  pub when : (t : Bool) (k : ℕ) {o : Outcome A} → Memᴰ k ns → (t ≡ false → Refuses ns most o) → Refuses ns most (refuse_when_at t k 0 o)
  when t k known rest = when_at t k 0 known (λ e. omega arith) rest

  -- a fault that is none, or one of the numbers
  pub fault_at : (k at : ℕ) {o : Outcome A} → Known ns k → at ≤ most → Refuses ns most o → Refuses ns most (refuse_when_at (not (eqb k 0)) k at o)
  fault_at k at {o} (inl e) low rest = subst (Refuses ns most) (sym (fault_none k at o e)) rest
  fault_at k at (inr known) low rest = when_at (not (eqb k 0)) k at known (λ t. low) (λ t. rest)

  pub room_so : (needed has : ℕ) (a : A) → Memᴰ 14 ns → needed ≤ most → Refuses ns most (room_for needed has a)
  room_so needed has a known low = when_at (ltb has needed) 14 needed known (λ e. low) (λ e. fine a)

  pub either : (t : Bool) (o p : Outcome A) → Refuses ns most o → Refuses ns most p → Refuses ns most (cond t o p)
  either true o p first second = first
  either false o p first second = second

  -- elements in turn, with the numbers of their faults
  pub in_turn : {E : Type 0} (fault : E → ℕ) (i : ℕ) (es : List E) → ((e : E) → Memᴰ e es → Known ns (fault e)) → {o : Outcome A}
      → i + length es ≤ suc most
      → Refuses ns most o → Refuses ns most (scan fault i es o)
  in_turn fault i [] known low rest = rest
  in_turn fault i (e ∷ es) known low rest =
      fault_at (fault e) i (known e (Memᴰ.head refl)) (omega arith)
      (in_turn fault (suc i) es (λ f inside. known f (Memᴰ.tail inside)) (omega arith) rest)

-- ---- outcomes after outcomes
module _ {A B : Type 0} {ns : List ℕ} {most : ℕ} where
  -- a refusal stays one, whatever was to follow it
  over : (k at : ℕ) → Refuses {A = A} ns most (refused k at) → Refuses {A = B} ns most (refused k at)
  over k at known =
      record { number = λ number place e. known.number number place (back e); place = λ number place e. known.place number place (back e) }
    where
      back : {number place : ℕ} → ◌≡◌ {A = Outcome B} (refused k at) (refused number place) → ◌≡◌ {A = Outcome A} (refused k at) (refused number place)
      back e = cc

  pub mapped_so : (g : A → B) (o : Outcome A) → Refuses ns most o → Refuses ns most (mapped g o)
  mapped_so g (accepted a) known = fine (g a)
  mapped_so g (refused k at) known = over k at known

  pub then_so : (o : Outcome A) (f : A → Outcome B) → Refuses ns most o → ((a : A) → o ≡ accepted a → Refuses ns most (f a)) → Refuses ns most (and_then o f)
  then_so (accepted a) f known later = later a refl
  then_so (refused k at) f known later = over k at known

-- ---- faults
pub no_fault : (ns : List ℕ) → Known ns 0
no_fault ns = inl refl

pub fault_so : {ns : List ℕ} (t : Bool) (k rest : ℕ) → Memᴰ k ns → Known ns rest → Known ns (fault_when t k rest)
fault_so true k rest known later = inr known
fault_so false k rest known later = later

pub wider : {ns : List ℕ} {k : ℕ} (n : ℕ) → Known ns k → Known (n ∷ ns) k
wider n (inl none) = inl none
wider n (inr known) = inr (Memᴰ.tail known)
