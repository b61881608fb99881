-- Inner contracts: what functions ask and answer that only this house calls. A reader of the promises may skip this file. Definitions only.
--
-- The pass over the marks as the code makes it: turn by turn, from one leaf that is no younger sibling of a merging family to the next;
-- `proofs/Turns.antt` ties it to what each leaf gives.
--
--   turn vs ms i     what happens at leaf i: 1 it is refined, 2 a merging family begins with it, 0 neither
--   turn_of t        the number of a Turn of the code
--   gain n t         how many leaves a turn makes
--   stride n t       how many leaves a turn takes
--   new_level, new_position   of the first leaf that a turn makes
--   first_of t v     that leaf, of the leaf v
--   Turns t v        its level and its position are not too large for their types
--   made vs ms i     what the turn at leaf i makes
--   Ready cs ms      what the pass needs of a list and its marks: columns of one length, no mark above 2; n leaves of one level, from a
--                    position divisible by n on, are a family; no level or position that it makes is too large for its type
--
-- Assumes nothing.
use Rattle.std.specs.Prelude.{◌≡◌, cond, List, ℕ, ◌+◌, ◌-◌, ◌*◌, ◌/◌, ◌%◌, ◌^◌, ◌≤◌, ◌<◌, eqb, length}
use Rattle.adaption.specs.declared.turn.Turn as code
use Rattle.adaption.specs.declared.turn.Turn.TheVariants.{Keep, Refine, Merge}
use Rattle.leaves.specs.Leaves.{Leaf, leaf, nth, Columns, leaf_at, leaves, room}
use Rattle.leaves.specs.Calls.{limit}
use Rattle.columns.specs.Laying.{stretch}
use Rattle.marks.specs.Marks.{mark}
use Rattle.adaption.specs.Adaption.{child, parent, merging}

abbrev pub turn_of : code.Turn → ℕ
turn_of Keep = 0
turn_of Refine = 1
turn_of Merge = 2

abbrev pub new_level : ℕ → ℕ → ℕ
new_level t l = cond (eqb t 1) (l + 1) (cond (eqb t 2) (l - 1) l)

module _ (n : ℕ) where
  abbrev pub turn : List Leaf → List ℕ → ℕ → ℕ
  turn vs ms i = cond (eqb (mark ms i) 1) 1 (cond (merging n vs ms i) 2 0)

  abbrev pub gain : ℕ → ℕ
  gain t = cond (eqb t 1) n 1

  abbrev pub stride : ℕ → ℕ
  stride t = cond (eqb t 2) n 1

  abbrev pub new_position : ℕ → ℕ → ℕ
  new_position t p = cond (eqb t 1) (n * p) (cond (eqb t 2) (p / n) p)

  abbrev pub first_of : ℕ → Leaf → Leaf
  first_of t v = leaf v.root (new_level t v.level) (new_position t v.position)

  pub record Turns (t : ℕ) (v : Leaf) : Type 0 where
    pub shallow : t ≡ 1 → v.level < 255
    pub deep : t ≡ 2 → 0 < v.level
    pub narrow : t ≡ 1 → n * v.position + n ≤ 2 ^ 63

  abbrev pub made : List Leaf → List ℕ → ℕ → List Leaf
  made vs ms i =
      stretch (nth vs i).root (new_level (turn vs ms i) (nth vs i).level) (new_position (turn vs ms i) (nth vs i).position) (gain (turn vs ms i))

  pub record Ready (cs : Columns) (ms : List ℕ) : Type 0 where
    pub few : room cs ≤ limit
    pub levels_long : length cs.roots ≡ length cs.levels
    pub positions_long : length cs.roots ≡ length cs.positions
    pub marks_long : room cs ≡ length ms
    pub siblings : (j : ℕ) → j + n ≤ length (leaves cs) → 0 < (nth (leaves cs) j).level → (nth (leaves cs) j).position % n ≡ 0
        → ((t : ℕ) → t < n → (nth (leaves cs) (j + t)).level ≡ (nth (leaves cs) j).level)
        → (t : ℕ) → t < n → nth (leaves cs) (j + t) ≡ child n (parent n (nth (leaves cs) j)) t
    pub known : (i : ℕ) → i < room cs → mark ms i ≤ 2
    pub low : (i : ℕ) → i < room cs → (leaf_at cs i).position < 2 ^ 63
    pub shallow : (i : ℕ) → i < room cs → mark ms i ≡ 1 → (leaf_at cs i).level < 255
    pub narrow : (i : ℕ) → i < room cs → mark ms i ≡ 1 → n * (leaf_at cs i).position + n ≤ 2 ^ 63
