-- Document 01, "Refusal numbers": the marks of a list, one a leaf, and their tests. Definitions only.
--
--   "then all marks 13, then 7 .. (place = leaf)": 7 mark 1 on a leaf of the highest level; 11 marks of another length; 13 mark above 2
--
--   mark ms i        the mark of leaf i: 0 keep, 1 refine, 2 merge
--   mark_fault ms i, depth_fault L ls ms i   13 and 7 for leaf i, of the level column ls
--                    (a level above L was refused before, so `leb` is "of the highest level")
--   numbers N        the numbers of N leaves
--   marked L ls ms o   the tests of the marks, where L is the highest level; then o
--   check_marks      the check of the marks alone, and of how many they are
--
-- Assumes nothing.
use Rattle.std.specs.Prelude.{not, ◌&&◌, List, ℕ, leb, ltb, eqb, length, get_or}
use Rattle.paper.specs.Outcome.{Outcome, passed, refuse_when, fault_when, scan, rows}

abbrev pub mark : List ℕ → ℕ → ℕ
mark ms i = get_or ms i 0

abbrev pub mark_fault : List ℕ → ℕ → ℕ
mark_fault ms i = fault_when (ltb 2 (mark ms i)) 13 0

abbrev pub depth_fault : ℕ → List ℕ → List ℕ → ℕ → ℕ
depth_fault L ls ms i = fault_when (eqb (mark ms i) 1 && leb L (get_or ls i 0)) 7 0

abbrev pub numbers : ℕ → List ℕ
numbers N = rows (λ i. i) 0 N

abbrev pub marked : {A : Type 0} → ℕ → List ℕ → List ℕ → Outcome A → Outcome A
marked L ls ms rest =
    scan (mark_fault ms) 0 (numbers (length ms))
    (scan (depth_fault L ls ms) 0 (numbers (length ms))
    rest)

abbrev pub check_marks : ℕ → List ℕ → List ℕ → Outcome (Unit {0})
check_marks L ls ms =
    refuse_when (not (eqb (length ls) (length ms))) 11
    (marked L ls ms passed)
