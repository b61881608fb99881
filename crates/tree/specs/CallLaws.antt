-- What is promised of the calls on elements, over any shape. Definitions only.
--
--   Accepts S        when each call accepts, and with what: exactly then, and with that. So each position below children^level, at a level up to
--                    the highest, has its element
--   ByPosition S     element at a position answers e exactly when e has that level and its position is answered with that position
--   SoundAnswers S   whatever a call answers as an element is sound
--
-- Not here: what else is promised of the words that are answered (`Laws.antt`, `Ancestors.antt`, `Descendants.antt`). Assumes nothing.
use Rattle.std.specs.Prelude.{◌≡◌, ℕ, ◌+◌, ◌^◌, ◌<◌, ◌≤◌, Bool, true, ◌↔◌, List}
use mathlib.Core.List.{Memᴰ}
use Rattle.paper.specs.Outcome.{accepted, Order}
use Rattle.tree.specs.Shape.{Shape}
use Rattle.tree.specs.Calls as calls
use Rattle.tree.specs.Laws.{Sound}
use Rattle.tree.specs.Words as words

module _ {E : Type 0} (S : Shape E) where
  pub record Accepts : Type 0 where
    pub at : (l p : ℕ) (f : E) → calls.at S l p ≡ accepted f ↔ ((l ≤ S.highest) × (p < S.children ^ l) × (words.element_at S l p ≡ f))
    pub position : (e : E) (p : ℕ) → calls.position S e ≡ accepted p ↔ (Sound S e × (words.position S e ≡ p))
    pub parent : (e f : E) → calls.parent S e ≡ accepted f ↔ (Sound S e × (0 < S.level e) × (S.parent e ≡ f))
    pub child : (e f : E) (i : ℕ) → calls.child S e i ≡ accepted f
        ↔ (Sound S e × (S.level e < S.highest) × (i < S.children) × (S.child e i ≡ f))
    pub successor : (e f : E) → calls.successor S e ≡ accepted f
        ↔ (Sound S e × (words.position S e + 1 < S.children ^ S.level e) × (words.successor S e ≡ f))
    pub first : (e f : E) (l : ℕ) → calls.first S e l ≡ accepted f
        ↔ (Sound S e × (l ≤ S.highest) × (S.level e ≤ l) × (words.first S e l ≡ f))
    pub last : (e f : E) (l : ℕ) → calls.last S e l ≡ accepted f
        ↔ (Sound S e × (l ≤ S.highest) × (S.level e ≤ l) × (words.last S e l ≡ f))
    pub neighbour : (e f : E) (i : ℕ) → calls.neighbour S e i ≡ accepted f ↔ (Sound S e × (i < S.faces) × (S.neighbour e i ≡ accepted f))
    pub family : (equal : Bool) (es : List E) (b : Bool) → calls.family S equal es ≡ accepted b
        ↔ ((equal ≡ true) × ((e : E) → Memᴰ e es → Sound S e) × (words.family S es ≡ b))
    pub order : (e f : E) (o : Order) → calls.order S e f ≡ accepted o ↔ (Sound S e × Sound S f × (words.order S e f ≡ o))

  abbrev pub ByPosition : Type 0
  ByPosition = (l p : ℕ) (e : E) → calls.at S l p ≡ accepted e ↔ ((S.level e ≡ l) × (calls.position S e ≡ accepted p))

  pub record SoundAnswers : Type 0 where
    pub at : (l p : ℕ) (f : E) → calls.at S l p ≡ accepted f → Sound S f
    pub parent : (e f : E) → calls.parent S e ≡ accepted f → Sound S f
    pub child : (e f : E) (i : ℕ) → calls.child S e i ≡ accepted f → Sound S f
    pub successor : (e f : E) → calls.successor S e ≡ accepted f → Sound S f
    pub first : (e f : E) (l : ℕ) → calls.first S e l ≡ accepted f → Sound S f
    pub last : (e f : E) (l : ℕ) → calls.last S e l ≡ accepted f → Sound S f
    pub neighbour : (e f : E) (i : ℕ) → calls.neighbour S e i ≡ accepted f → Sound S f
