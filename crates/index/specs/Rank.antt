-- "By demand 2 it equals the rank in the order of definition 22". Definitions only.
--
--   Before S index f e   f is a sound element of e's level with a smaller index
--   Ranked S index       an element's position is the number of those before it
--
-- Assumes nothing.
use Rattle.std.specs.Prelude.{◌≡◌, ℕ, ◌<◌}
use Rattle.paper.specs.Exactly.{Exactly}
use Rattle.tree.specs.Shape.{Shape}
use Rattle.tree.specs.Words.{position}
use Rattle.tree.specs.Laws.{Sound}

module _ {E : Type 0} (S : Shape E) (index : E → ℕ) where
  -- f stands before e, on its level
  pub record Before (f e : E) : Type 0 where
    pub sound : Sound S f
    pub level : S.level f ≡ S.level e
    pub smaller : index f < index e

  pub record Ranked : Type 0 where
    pub counted : (e : E) → Sound S e → Exactly (position S e) (λ f. Before f e)
