-- Document 01, "Refusal numbers": the calls on leaf lists, each test in the order of the paper. Definitions only.
--
--   "List calls: 17, 11, then each leaf in turn 1, 5, 12 (place = leaf; a list that ends early gives 12 at its length)"
--   "Uniform: 17, 11, 1, 15, 14."
--   1 level above the highest; 5 position not below children^level; 11 columns of one list unequal, input list empty or over 1,048,576;
--   12 list doesn't cover as stated; 14 no room, place = entries needed; 15 result over 1,048,576 leaves; 17 roots outside 1 to 4,096
--
--   limit              1,048,576: the most leaves
--   most               4,096: the most roots or shares
--   out_of_range k     "outside 1 to 4,096"
--   starts K c v       the leaf v starts where the list has come to c, in one of the K roots
--   leaf_fault K c v   the first of 1, 5, 12 that the leaf v has where the list has come to c
--   walked K i c vs o   the leaves vs from number i on, where the list has come to c; then o
--   listed           a list call: the tests of its numbers, its columns and its leaves; then o. in_range: the call's other number (shares)
--                    is in range; fitting: its other columns (marks or weights, lent columns) have the lengths that they must have
--   check_list K cs  the list check
--   uniform K l m    the call of a uniform start into the columns m: its leaves
--   Started          the contract of that call: it answers how many leaves there are
--
-- Assumes nothing.
use Rattle.std.specs.Prelude.{Bool, true, not, ◌&&◌, ◌||◌, List, [], ◌∷◌, ℕ, suc, ◌*◌, ◌^◌, leb, ltb, eqb, length}
use Rattle.std.specs.declared.result.Result.{Result}
use Rattle.paper.specs.Outcome.{Outcome, passed, refuse_when, refuse_when_at, fault_when, mapped}
use Rattle.paper.specs.Memory.{room_for, Fulfils}
use Rattle.paper.specs.declared.Refusal.{Refusal}
use Rattle.paper.specs.Refusals.{outcome_of}
use Rattle.tree.specs.Anchors.{HIGHEST}
use Rattle.leaves.specs.Leaves.{CHILDREN, Leaf, Columns, leaves, equal_columns, room, front, Spot, spot_at, begin, end_of, uniform_list}

abbrev pub limit : ℕ
limit = 1048576

abbrev pub most : ℕ
most = 4096

abbrev pub out_of_range : ℕ → Bool
out_of_range k = eqb k 0 || ltb most k

module _ (n L : ℕ) where
  -- the leaf starts where the list has come to, in one of the K roots
  abbrev pub starts : ℕ → Spot → Leaf → Bool
  starts K c v = ltb v.root K && (eqb v.root c.root && eqb (begin n L v) c.cell)

  abbrev pub leaf_fault : ℕ → Spot → Leaf → ℕ
  leaf_fault K c v =
      fault_when (ltb L v.level) 1
      (fault_when (leb (n ^ v.level) v.position) 5
      (fault_when (not (starts K c v)) 12 0))

  unfoldable pub walked : {A : Type 0} → ℕ → ℕ → Spot → List Leaf → Outcome A → Outcome A
  walked K i c [] rest = refuse_when_at (not (eqb c.root K && eqb c.cell 0)) 12 i rest
  walked K i c (v ∷ vs) rest =
      refuse_when_at (not (eqb (leaf_fault K c v) 0)) (leaf_fault K c v) i (walked K (suc i) (end_of n L v) vs rest)

  abbrev pub listed : {A : Type 0} → ℕ → Bool → Bool → Columns → Outcome A → Outcome A
  listed K in_range fitting cs rest =
      refuse_when (out_of_range K || not in_range) 17
      (refuse_when (not (equal_columns cs && fitting)) 11
      (refuse_when (eqb (room cs) 0 || ltb limit (room cs)) 11
      (walked K 0 (spot_at 0 0) (leaves cs) rest)))

  abbrev pub check_list : ℕ → Columns → Outcome (Unit {0})
  check_list K cs = listed K true true cs passed

  abbrev pub uniform : ℕ → ℕ → Columns → Outcome (List Leaf)
  uniform K l m =
      refuse_when (out_of_range K) 17
      (refuse_when (not (equal_columns m)) 11
      (refuse_when (ltb L l) 1
      (refuse_when (ltb limit (K * n ^ l)) 15
      (room_for (K * n ^ l) (room m) (uniform_list n L K l)))))

abbrev pub Started : ℕ → ℕ → Result ℕ Refusal → Columns → Columns → Type 0
Started k level r m m' = Fulfils outcome_of (mapped length) front (uniform CHILDREN HIGHEST k level m) r m m'
