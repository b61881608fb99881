-- A list as the code has it: three lent columns, a LeafList, of which a clause sees what stands in them, `Columns`. Definitions only.
--
--   leaf_of v    the leaf that a Leaf of the code is
--   Even cs      the columns are equally long
--
-- Assumes nothing.
use Rattle.std.specs.Prelude.{◌≡◌, length}
use Rattle.leaves.specs.declared.list.Leaf as code
use Rattle.leaves.specs.Leaves.{Leaf, leaf, Columns}

abbrev pub leaf_of : code.Leaf → Leaf
leaf_of v = leaf v.root v.level v.position

pub record Even (cs : Columns) : Type 0 where
  pub levels_long : length cs.roots ≡ length cs.levels
  pub positions_long : length cs.roots ≡ length cs.positions
