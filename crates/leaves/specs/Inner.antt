-- Inner contracts: what functions ask and answer that only this house calls. A reader of the promises may skip this file. Definitions only.
--
--   spot_of           the spot that a Cursor stands for
--   Walks             what the walk along a list asks: columns equally long, and smallest cells that a word counts
--   rest_of           the list check from entry i on, where the list has come to c
--   NextRoot          the leaves from entry i on fill root r, and the next root starts at entry j
--   Refuses           they don't, and the list is refused
--
-- Assumes nothing.
use Rattle.std.specs.Prelude.{◌≡◌, ℕ, ◌+◌, ◌-◌, ◌*◌, ◌≤◌}
use Rattle.paper.specs.declared.Refusal.{Refusal}
use Rattle.paper.specs.Outcome.{Outcome, refused, passed, rows}
use Rattle.paper.specs.Refusals.{number_of, place_of}
use Rattle.leaves.specs.declared.step.Cursor.{Cursor}
use Rattle.leaves.specs.Leaves.{Columns, leaf_at, room, Spot, spot_at}
use Rattle.leaves.specs.Calls.{walked}
use Rattle.leaves.specs.Lists.{Even}

abbrev pub spot_of : Cursor → Spot
spot_of c = spot_at c.root c.cell

pub record Walks (bits L : ℕ) (cs : Columns) : Type 0 where
  pub narrow : bits * L ≤ 63
  pub even : Even cs

abbrev pub rest_of : ℕ → ℕ → ℕ → ℕ → Spot → Columns → Outcome (Unit {0})
rest_of n L K i c cs = walked n L K i c (rows (leaf_at cs) i (room cs - i)) passed

pub record NextRoot (n L K r i j : ℕ) (cs : Columns) : Type 0 where
  pub inside : j ≤ room cs
  pub goes_on : rest_of n L K i (spot_at r 0) cs ≡ rest_of n L K j (spot_at (r + 1) 0) cs

abbrev pub Refuses : ℕ → ℕ → ℕ → ℕ → ℕ → Refusal → Columns → Type 0
Refuses n L K r i e cs = rest_of n L K i (spot_at r 0) cs ≡ refused (number_of e) (place_of e)
