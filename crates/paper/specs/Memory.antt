-- Document 01, "Refusal numbers": "lent memory keeps its contents. An accepted call writes its result at the front of the lent columns or
-- bytes, and no further." The form of the contract of every call of the paper that writes into lent memory. Definitions
-- only.
--
--   written front l     the lent column l with front at its front
--   room_for k room a   "14 no room; place = entries or bytes needed": accepted with a where room holds k of them
--   left put o m        what a call with the outcome o leaves in the memory m: what put makes of it by the result, m itself on a refusal
--   Fulfils             the contract of a call whose outcome is due, in a run with the answer r that found the memory m and left m': the
--                       answer's reading shows the outcome, and the memory is what that outcome leaves
--   Decided C           two runs with the contract C have the same answer and leave the same memory
--   Spared f m C        where the answer's reading f is a refusal, the memory is m, what it was
--
-- Assumes nothing.
use Rattle.std.specs.Prelude.{◌≡◌, List, ◌++◌, ℕ, ltb, length, drop}
use Rattle.paper.specs.Outcome.{Outcome, accepted, refused, refuse_when_at}

abbrev pub written : {A : Type 0} → List A → List A → List A
written front l = front ++ drop (length front) l

abbrev pub room_for : {A : Type 0} → ℕ → ℕ → A → Outcome A
room_for needed room result = refuse_when_at (ltb room needed) 14 needed (accepted result)

abbrev pub left : {A M : Type 0} → (A → M → M) → Outcome A → M → M
left put (accepted result) memory = put result memory
left put (refused number place) memory = memory

pub record Fulfils {R S A M : Type 0} (reading : R → S) (shows : Outcome A → S) (put : A → M → M) (due : Outcome A) (r : R) (m m' : M) : Type 0 where
  pub answer : reading r ≡ shows due
  pub memory : m' ≡ left put due m

abbrev pub Decided : {R M : Type 0} → (R → M → Type 0) → Type 0
Decided {R} {M} C = (r s : R) (m m' : M) → C r m → C s m' → (r ≡ s) × (m ≡ m')

abbrev pub Spared : {R B M : Type 0} → (R → Outcome B) → M → (R → M → Type 0) → Type 0
Spared {R} {B} {M} reading before C = (r : R) (m : M) (number place : ℕ) → C r m → reading r ≡ refused number place → m ≡ before
