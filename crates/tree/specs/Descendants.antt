-- Document 01, "Elements": "First and last descendant at a level no smaller than the element's own", and "Order of two elements", of any
-- shape: what they are among the elements that lie in another. Definitions only.
--
--   Descends S e l f   f is a valid element of level l that lies in e: a descendant of e at that level
--   Descendants S      the first and the last descendant are descendants; the elements that lie in e are, at each level, those whose
--                      positions stand from the first to the last; at each level there are exactly children^(levels below) of them, so one
--                      level below there are as many as the shape's number of children
--   CurveOrder S       an element stands before what else lies in it; elements of one level stand in the order of their positions
--
-- Assumes nothing.
use Rattle.std.specs.Prelude.{◌≡◌, ℕ, ◌-◌, ◌^◌, ◌<◌, ◌≤◌, ◌↔◌, ◌≢◌}
use Rattle.paper.specs.Outcome.{less}
use Rattle.paper.specs.Exactly.{Exactly}
use Rattle.tree.specs.Shape.{Shape}
use Rattle.tree.specs.Words.{position, first, last, order}
use Rattle.tree.specs.Laws.{Sound, OfLevel}
use Rattle.tree.specs.Ancestors.{LiesIn}

module _ {E : Type 0} (S : Shape E) where
  pub record Descends (e : E) (l : ℕ) (f : E) : Type 0 where
    pub stands : OfLevel S f l
    pub lies : LiesIn S f e

  pub record Descendants : Type 0 where
    pub of_first : (e : E) (l : ℕ) → Sound S e → S.level e ≤ l → l ≤ S.highest → Descends e l (first S e l)
    pub of_last : (e : E) (l : ℕ) → Sound S e → S.level e ≤ l → l ≤ S.highest → Descends e l (last S e l)
    pub between : (e f : E) → Sound S e → Sound S f → S.level e ≤ S.level f
        → LiesIn S f e
        ↔ ((position S (first S e (S.level f)) ≤ position S f) × (position S f ≤ position S (last S e (S.level f))))
    pub many : (e : E) (l : ℕ) → Sound S e → S.level e ≤ l → l ≤ S.highest → Exactly (S.children ^ (l - S.level e)) (Descends e l)

  pub record CurveOrder : Type 0 where
    pub ancestor_first : (e f : E) → Sound S e → Sound S f → LiesIn S f e → (f ≢ e) → order S e f ≡ less
    pub by_position : (e f : E) → Sound S e → Sound S f → S.level e ≡ S.level f → order S e f ≡ less ↔ position S e < position S f
