-- Inner contracts: what functions ask and answer that only this house calls. A reader of the promises may skip this file. Definitions only.
--
--   walk_of m w    the walk that a Walk stands for after m runs
--   taken r        the run that a Run stands for
--   run_of         the outcome that a Run, read or refused, stands for
--   Proper c       a spot that shifts and sums keep in their words: a smallest cell of its root, and a root that 16 bits can number
--   Standing w     what a walk is at: few leaves, a proper spot
--   Follows w r    the run r can follow the walk w
--   Stopped        what is told of a walk that stopped after so many runs
--
-- Assumes nothing.
use Rattle.std.specs.Prelude.{◌≡◌, ℕ, ◌+◌, ◌%◌, ◌^◌, ◌≤◌, ◌<◌}
use Rattle.std.specs.declared.result.Result.{Result}
use Rattle.paper.specs.declared.Refusal.{Refusal}
use Rattle.paper.specs.Outcome.{Outcome, mapped}
use Rattle.paper.specs.Refusals.{outcome_of}
use Rattle.tree.specs.Anchors.{HIGHEST}
use Rattle.leaves.specs.Leaves.{CHILDREN, Spot, span}
use Rattle.leaves.specs.Calls.{limit}
use Rattle.format.specs.Reading.{FoundRun, found_run, Walk, walk_at}
use Rattle.sounding.specs.Answers.{spot_of}
use Rattle.sounding.specs.declared.Sounding.{Sounding}
use Rattle.sounding.specs.declared.walk.Run.{Run}
use Rattle.sounding.specs.declared.walk.Walk as declared

abbrev pub walk_of : ℕ → declared.Walk → Walk
walk_of m w = walk_at m w.leaves w.before (spot_of w.come) w.next

abbrev pub taken : Run → FoundRun
taken r = found_run r.level r.count r.next

abbrev pub run_of : Result Run Refusal → Outcome FoundRun
run_of r = mapped taken (outcome_of r)

pub record Proper (c : Spot) : Type 0 where
  pub low : c.root ≤ 65535
  pub cell : c.cell < CHILDREN ^ HIGHEST

pub record Standing (w : Walk) : Type 0 where
  pub few : w.count ≤ limit
  pub spot : Proper w.come

pub record Follows (w : Walk) (r : FoundRun) : Type 0 where
  pub shallow : r.level ≤ HIGHEST
  pub starts : w.come.cell % span CHILDREN HIGHEST r.level ≡ 0
  pub few : w.count + r.count ≤ limit

abbrev pub Stopped : declared.Walk → ℕ → Result (Unit {0}) Refusal → Sounding → Type 0
Stopped w runs fault r = r ≡ record { runs = runs; leaves = w.leaves; come = w.come; next = w.next; fault = fault }
