-- Document 01, "Refusal numbers": reading a grid file, and what it leaves behind. Definitions only.
--
--   "File reading: 11 on the columns, then byte order .., last 14": the file itself is `grid_at` of the crate `format`
--
--   read           the call, of the bytes bs, into the lent columns m: the grid
--   size_of g      the number of roots and of leaves of a grid
--   FileRead       the contract of the call: it answers the grid's size, and puts its leaves at the front of the columns
--
-- Assumes nothing.
use Rattle.std.specs.Prelude.{not, List, ℕ, length}
use Rattle.std.specs.declared.result.Result.{Result}
use Rattle.paper.specs.declared.Refusal.{Refusal}
use Rattle.paper.specs.Outcome.{Outcome, refuse_when, mapped, and_then}
use Rattle.paper.specs.Memory.{room_for, Fulfils}
use Rattle.tree.specs.Anchors.{HIGHEST}
use Rattle.leaves.specs.Leaves.{CHILDREN, Columns, equal_columns, room, front}
use Rattle.format.specs.Reading.{Grid, grid_at}
use Rattle.reader.specs.Answers.{Size, size, grid_of}
use Rattle.reader.specs.declared.Grid as code

abbrev pub read : ℕ → ℕ → List ℕ → Columns → Outcome Grid
read n L bs m =
    refuse_when (not (equal_columns m)) 11
    (and_then (grid_at n L bs) (λ (g : Grid).
    room_for (length g.leaves) (room m) g))

abbrev pub size_of : Grid → Size
size_of g = size g.roots (length g.leaves)

abbrev pub FileRead : List ℕ → Result code.Grid Refusal → Columns → Columns → Type 0
FileRead bs r m m' = Fulfils grid_of (mapped size_of) (λ (g : Grid). front g.leaves) (read CHILDREN HIGHEST bs m) r m m'
