-- Inner contracts: what functions ask and answer that only this house calls. A reader of the promises may skip this file. Definitions only.
--
--   Within ws limit count sum   sum is the weight of the first count leaves, and within the limit
--   Stopped ws limit count sum   and one leaf more would pass it
--
-- Assumes nothing.
use Rattle.std.specs.Prelude.{◌≡◌, List, ℕ, ◌+◌, ◌≤◌, ◌<◌, length, get_or, take}
use Rattle.shares.specs.Shares.{total}

pub record Within (ws : List ℕ) (limit count sum : ℕ) : Type 0 where
  pub within : count ≤ length ws
  pub summed : sum ≡ total (take count ws)
  pub under : sum ≤ limit

pub record Stopped (ws : List ℕ) (limit count sum : ℕ) : Type 0 where
  pub reached : Within ws limit count sum
  pub next_over : count < length ws → limit < sum + get_or ws count 0
