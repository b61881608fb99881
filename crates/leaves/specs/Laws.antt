-- What is promised of leaf lists, as statements, over the number of children and the highest level. Definitions only.
--
--   ValidList         "A list is three columns of equal length: root, level, position; 1 to 1,048,576 leaves. It is valid for K roots when .."
--   Holds v r q       smallest cell q of root r lies in the leaf v, by its position: the leaf is of that root, and the cell's position divided by
--                     the cells that the leaf holds is the leaf's. `Cells.antt` says it by taking parents, and that the two agree
--   Promised          a list is valid for one number of roots at most; a uniform list is valid and as long as the call says
--
-- Not here: that each smallest cell lies in exactly one leaf of a valid list, and that its leaves follow the curve (`Cells.antt`); that each list call
-- accepts valid lists and no others (`promises/specs/Accepts.antt`).
-- Assumes nothing.
use Rattle.std.specs.Prelude.{◌≡◌, List, ℕ, ◌*◌, ◌/◌, ◌^◌, ◌≤◌, ◌<◌, length}
use Rattle.leaves.specs.Leaves.{Leaf, Columns, leaves, room, Valid, uniform_list, span}
use Rattle.leaves.specs.Calls.{limit, most}

module _ (n L : ℕ) where
  pub record Holds (v : Leaf) (r q : ℕ) : Type 0 where
    pub root : v.root ≡ r
    pub ancestor : q / span n L v.level ≡ v.position

  pub record ValidList (K : ℕ) (cs : Columns) : Type 0 where
    pub some_root : 0 < K
    pub few_roots : K ≤ most
    pub levels_long : length cs.roots ≡ length cs.levels
    pub positions_long : length cs.roots ≡ length cs.positions
    pub some : 0 < room cs
    pub few : room cs ≤ limit
    pub valid : Valid n L K (leaves cs)

  pub record Promised : Type 0 where
    pub one_K : (K K' : ℕ) (vs : List Leaf) → Valid n L K vs → Valid n L K' vs → K ≡ K'
    pub of_uniform : (K l : ℕ) → l ≤ L → Valid n L K (uniform_list n L K l)
    pub uniform_long : (K l : ℕ) → length (uniform_list n L K l) ≡ K * n ^ l
