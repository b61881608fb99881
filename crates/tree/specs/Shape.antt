-- Document 01, "What is built": "Each shape states its own constants". What a line, a triangle and a prism have in common.
-- Definitions only.
--
--   children, faces, corners   "children 2, 4, 8; faces 2, 3, 5; corners 2, 3, 6"
--   highest           the highest level
--   level e           the element's level
--   fault e           "Checks on an element: 1, 2, 3, 4": the number of the first that it fails, 0 where it passes all
--   root              the element of level 0
--   child e i         "Children .. by curve number": child i of e
--   parent e          the element that e is a child of
--   number e          which child of its parent e is
--   neighbour e i     "Face neighbours, same level": the element across face i, or refused 10
--   same e f          whether the two agree in every field
--
-- Not here: anchors (`Anchors.antt`), positions and what follows from them (`Words.antt`), the calls (`Calls.antt`).
-- Assumes nothing.
use Rattle.std.specs.Prelude.{ℕ, Bool}
use Rattle.paper.specs.Outcome.{Outcome}

pub record Shape (E : Type 0) : Type 0 where
  pub children : ℕ
  pub faces : ℕ
  pub corners : ℕ
  pub highest : ℕ
  pub level : E → ℕ
  pub fault : E → ℕ
  pub root : E
  pub child : E → ℕ → E
  pub parent : E → E
  pub number : E → ℕ
  pub neighbour : E → ℕ → Outcome E
  pub same : E → E → Bool
