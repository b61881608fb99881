-- Document 01, "Refusal numbers": the call for shares, and what it leaves behind. Definitions only.
--
--   "List calls: 17, 11, then each leaf in turn 1, 5, 12 .., then .. all weights 16 (place = leaf); then .. 14"
--   11 weights of another length; 14 no room, place = entries needed: P+1; 16 weight 0; 17 roots or shares outside 1 to 4,096
--
--   weight_fault w   16 for a weight 0
--   shares           the call, of the columns cs with the weights ws, into a lent column: the boundaries
--   Shared           the contract of the call: it answers nothing beyond the boundaries that it writes
--
-- Assumes nothing.
use Rattle.std.specs.Prelude.{not, List, ℕ, ◌+◌, eqb, length}
use Rattle.std.specs.declared.result.Result.{Result}
use Rattle.paper.specs.Outcome.{Outcome, mapped, fault_when, scan}
use Rattle.paper.specs.Memory.{written, room_for, Fulfils}
use Rattle.paper.specs.Refusals.{outcome_of}
use Rattle.paper.specs.declared.Refusal.{Refusal}
use Rattle.tree.specs.Anchors.{HIGHEST}
use Rattle.leaves.specs.Leaves.{CHILDREN, Columns, room}
use Rattle.leaves.specs.Calls.{out_of_range, listed}
use Rattle.shares.specs.Shares.{boundaries}

abbrev pub weight_fault : ℕ → ℕ
weight_fault w = fault_when (eqb w 0) 16 0

abbrev pub shares : ℕ → ℕ → ℕ → ℕ → Columns → List ℕ → List ℕ → Outcome (List ℕ)
shares n L K P cs ws column =
    listed n L K (not (out_of_range P)) (eqb (room cs) (length ws)) cs
    (scan weight_fault 0 ws
    (room_for (P + 1) (length column) (boundaries P ws)))

abbrev pub Shared : ℕ → ℕ → Result (Unit {0}) Refusal → Columns → List ℕ → List ℕ → List ℕ → Type 0
Shared k p r cs ws column column' =
    Fulfils outcome_of (mapped (λ (boundaries : List ℕ). tt)) written (shares CHILDREN HIGHEST k p cs ws column) r column column'
