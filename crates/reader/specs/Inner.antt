-- Inner contracts: what functions ask and answer that only this house calls. A reader of the promises may skip this file. Definitions only.
--
--   Running     what the second pass asks of a run: it can start at c, and ends within roots that 16 bits can number
--   RunLaid     what it answers: where the run ends, and its leaves stored from entry i on
--
-- Assumes nothing.
use Rattle.std.specs.Prelude.{◌≡◌, ℕ, ◌%◌, ◌^◌, ◌≤◌, ◌<◌}
use Rattle.tree.specs.Anchors.{HIGHEST}
use Rattle.leaves.specs.Leaves.{CHILDREN, Columns, Spot, span}
use Rattle.columns.specs.Laying.{stored}
use Rattle.format.specs.Reading.{leaves_from, end_from}

pub record Running (level count : ℕ) (c : Spot) : Type 0 where
  pub shallow : level ≤ HIGHEST
  pub proper : c.cell < CHILDREN ^ HIGHEST
  pub whole : c.cell % span CHILDREN HIGHEST level ≡ 0
  pub low : (end_from CHILDREN HIGHEST c level count).root ≤ 65535

pub record RunLaid (level count : ℕ) (c : Spot) (i : ℕ) (d : Spot) (m m' : Columns) : Type 0 where
  pub ends : d ≡ end_from CHILDREN HIGHEST c level count
  pub memory : m' ≡ stored i (leaves_from CHILDREN HIGHEST c level count) m
