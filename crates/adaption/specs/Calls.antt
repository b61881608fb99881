-- Document 01, "Refusal numbers": the call of adaption, and what it leaves behind. Definitions only.
--
--   "List calls: 17, 11, then each leaf in turn 1, 5, 12 .., then all marks 13, then 7 .. (place = leaf); then 15, 14"
--   11 marks of another length; 13 and 7 as `marks` has them; 14 no room, place = entries needed; 15 result over 1,048,576 leaves
--
--   adapt K cs ms m  the call on the list cs with the marks ms, into the lent columns m: the leaves of its result
--   Adapted          the contract of that call: it answers how many leaves the result has
--
-- Assumes nothing.
use Rattle.std.specs.Prelude.{true, ◌&&◌, List, ℕ, ltb, eqb, length}
use Rattle.std.specs.declared.result.Result.{Result}
use Rattle.paper.specs.Outcome.{Outcome, refuse_when, mapped}
use Rattle.paper.specs.Memory.{room_for, Fulfils}
use Rattle.paper.specs.Refusals.{outcome_of}
use Rattle.paper.specs.declared.Refusal.{Refusal}
use Rattle.tree.specs.Anchors.{HIGHEST}
use Rattle.leaves.specs.Leaves.{CHILDREN, Leaf, Columns, leaves, equal_columns, room, front}
use Rattle.leaves.specs.Calls.{limit, listed}
use Rattle.marks.specs.Marks.{marked}
use Rattle.adaption.specs.Adaption.{adapted}

module _ (n L : ℕ) where
  abbrev pub adapt : ℕ → Columns → List ℕ → Columns → Outcome (List Leaf)
  adapt K cs ms m =
      let ws = adapted n (leaves cs) ms in
      listed n L K true (eqb (room cs) (length ms) && equal_columns m) cs
      (marked L cs.levels ms
      (refuse_when (ltb limit (length ws)) 15
      (room_for (length ws) (room m) ws)))

abbrev pub Adapted : ℕ → Result ℕ Refusal → Columns → List ℕ → Columns → Columns → Type 0
Adapted k r cs ms m m' = Fulfils outcome_of (mapped length) front (adapt CHILDREN HIGHEST k cs ms m) r m m'
