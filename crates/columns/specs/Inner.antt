-- Inner contracts: what functions ask and answer that only this house calls. A reader of the promises may skip this file. Definitions only.
--
--   Filled          the loops of a uniform start: the first count entries of each column, for 2^bits leaves a root
--
-- Assumes nothing.
use Rattle.std.specs.Prelude.{◌≡◌, ℕ, ◌/◌, ◌%◌, ◌^◌}
use Rattle.paper.specs.Outcome.{rows}
use Rattle.paper.specs.Memory.{written}
use Rattle.leaves.specs.Leaves.{Columns}

pub record Filled (bits level count : ℕ) (m m' : Columns) : Type 0 where
  pub in_roots : m'.roots ≡ written (rows (λ i. i / 2 ^ bits) 0 count) m.roots
  pub in_levels : m'.levels ≡ written (rows (λ i. level) 0 count) m.levels
  pub in_positions : m'.positions ≡ written (rows (λ i. i % 2 ^ bits) 0 count) m.positions
