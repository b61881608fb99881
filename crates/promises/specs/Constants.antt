-- Document 01, "What is built": "Each shape states its own constants: children 2, 4, 8; faces 2, 3, 5; corners 2, 3, 6". That the code states those of
-- the definitions, which demand 2 ties to the children, the faces and the corners themselves (`many` in `Descendants`, `Constants` in
-- `tree/specs/Laws.antt`). Definitions only.
--
--   counts_of S    the constants of a shape
--   stated         those of all three
--
-- Assumes nothing.
use Rattle.tree.specs.Shape.{Shape}
use Rattle.line.specs.Elements.{line}
use Rattle.triangle.specs.Elements.{triangle}
use Rattle.prism.specs.Elements.{prism}
use Rattle.promises.specs.declared.Counts.{Counts}
use Rattle.promises.specs.declared.AllCounts.{AllCounts}

abbrev pub counts_of : {E : Type 0} → Shape E → Counts
counts_of S = record { children = S.children; faces = S.faces; corners = S.corners }

abbrev pub stated : AllCounts
stated = record { line = counts_of line; triangle = counts_of triangle; prism = counts_of prism }
