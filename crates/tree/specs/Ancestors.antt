-- Document 01, "Leaf lists": "It lies in itself and in each prism reached from it by taking parents", of any element of any shape.
-- Definitions only.
--
--   up S k e       the element reached from e by taking parents k times
--   LiesIn S e f   e lies in f: f is reached from e by taking parents, at most as often as there is one
--   within S e f   whether it does, as a test: f is e's parent taken as often as their levels differ
--   Above S e k    what is known of the element k parents up
--   Ancestors S    the laws: every element k parents up is so; the test says what it should; e lies in f exactly when its position,
--                  divided by the number of children once a level, is f's; e lies in itself, and in what its ancestors lie in
--
-- Assumes nothing.
use Rattle.std.specs.Prelude.{◌≡◌, ℕ, zero, suc, ◌+◌, ◌-◌, ◌/◌, ◌^◌, ◌≤◌, Bool, true, ◌&&◌, ◌↔◌, nat_le}
use Rattle.tree.specs.Shape.{Shape}
use Rattle.tree.specs.Words as words
use Rattle.tree.specs.Laws.{Sound}

module _ {E : Type 0} (S : Shape E) where
  unfoldable pub up : ℕ → E → E
  up zero e = e
  up (suc k) e = S.parent (up k e)

  pub record LiesIn (e f : E) : Type 0 where
    pub times : ℕ
    pub parents : times ≤ S.level e
    pub reached : up times e ≡ f

  abbrev pub within : E → E → Bool
  within e f = nat_le (S.level f) (S.level e) && S.same (up (S.level e - S.level f) e) f

  pub record Above (e : E) (k : ℕ) : Type 0 where
    pub sound : Sound S (up k e)
    pub level : S.level (up k e) + k ≡ S.level e
    pub position : words.position S (up k e) ≡ words.position S e / S.children ^ k

  pub record Ancestors : Type 0 where
    pub above : (e : E) (k : ℕ) → Sound S e → k ≤ S.level e → Above e k
    pub decided : (e f : E) → Sound S e → within e f ≡ true ↔ LiesIn e f
    pub by_position : (e f : E) → Sound S e → Sound S f → S.level f ≤ S.level e
        → LiesIn e f ↔ words.position S e / S.children ^ (S.level e - S.level f) ≡ words.position S f
    pub itself : (e : E) → LiesIn e e
    pub carried : (e f g : E) → Sound S e → LiesIn e f → LiesIn f g → LiesIn e g
