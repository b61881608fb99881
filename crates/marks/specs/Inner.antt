-- Inner contracts: what functions ask and answer that only this house calls. A reader of the promises may skip this file. Definitions only.
--
--   Faultless        the first k marks have no fault
--
-- Assumes nothing.
use Rattle.std.specs.Prelude.{◌≡◌, List, ℕ, ◌<◌}
use Rattle.marks.specs.Marks.{mark_fault, depth_fault}

abbrev pub Faultless : ℕ → List ℕ → List ℕ → ℕ → Type 0
Faultless L ls ms k = (j : ℕ) → j < k → (mark_fault ms j ≡ 0) × (depth_fault L ls ms j ≡ 0)
