-- Document 02, ticket 1: a column of positions of prisms, "at one level". Which of them the level has not; "the place of a 5 is the first bad
-- index". Definitions only.
--
--   position_fault l p     5 for a position p that the level l has not
--   check_positions l ps   the check of a column: 1 for the level, then each position in turn, place = its index
--
-- Assumes nothing.
use Rattle.std.specs.Prelude.{List, ℕ, ◌^◌, leb, ltb}
use Rattle.paper.specs.Outcome.{Outcome, refuse_when, fault_when, checks}
use Rattle.tree.specs.Anchors.{HIGHEST}
use Rattle.prism.specs.Elements.{CHILDREN}

abbrev pub position_fault : ℕ → ℕ → ℕ
position_fault l p = fault_when (leb (CHILDREN ^ l) p) 5 0

abbrev pub check_positions : ℕ → List ℕ → Outcome (Unit {0})
check_positions l ps = refuse_when (ltb HIGHEST l) 1 (checks (position_fault l) ps)
