-- Columns lent for a list to be written into, as the code has them: a LentColumns. Definitions only.
--
--   held m           what stands in the lent columns
--   SameLoans m m'   a call gave back the columns that it was lent, and no others: what it left in m' stands in the columns of m
--
-- Assumes nothing.
use Rattle.std.specs.Prelude.{◌≡◌}
use Rattle.columns.specs.declared.lent.LentColumns.{LentColumns}
use Rattle.leaves.specs.Leaves.{Columns, columns}

abbrev pub held : LentColumns → Columns
held m = columns m.roots.now m.levels.now m.positions.now

pub record SameLoans (m m' : LentColumns) : Type 0 where
  pub roots : m'.roots.ghost_name ≡ m.roots.ghost_name
  pub levels : m'.levels.ghost_name ≡ m.levels.ghost_name
  pub positions : m'.positions.ghost_name ≡ m.positions.ghost_name
