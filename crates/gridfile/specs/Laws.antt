-- What is promised of the calls of the grid file, as statements. Definitions only.
--
--   RoundTrip     what was written is read as the list that was given, and what was read is written as the bytes given, where there is room (else 14);
--                 and a list is written for one number of roots only, as one file
--
-- Not here: what stands in the lent memory afterwards (`promises/specs/InMemory.antt`). Assumes nothing.
use Rattle.std.specs.Prelude.{◌≡◌, true, List, ℕ, length}
use Rattle.paper.specs.Outcome.{accepted}
use Rattle.paper.specs.Memory.{room_for}
use Rattle.leaves.specs.Leaves.{Columns, leaves, columns_of, equal_columns, room}
use Rattle.numbers.specs.Laws.{Bytes}
use Rattle.format.specs.Reading.{Grid}
use Rattle.writer.specs.Calls.{write}
use Rattle.reader.specs.Calls.{read}

module _ (n L : ℕ) where
  pub record RoundTrip : Type 0 where
    pub saved : (K : ℕ) (cs : Columns) (bytes file : List ℕ) (m : Columns) → write n L K cs bytes ≡ accepted file → equal_columns m ≡ true
        → read n L file m ≡ room_for (length (leaves cs)) (room m) (record { roots = K; leaves = leaves cs })
    pub loaded : (bs : List ℕ) (m : Columns) (g : Grid) (bytes : List ℕ) → Bytes bs → read n L bs m ≡ accepted g
        → write n L g.roots (columns_of g.leaves) bytes ≡ room_for (length bs) (length bytes) bs
    pub one_roots : (K K' : ℕ) (cs : Columns) (bytes bytes' file file' : List ℕ)
        → write n L K cs bytes ≡ accepted file → write n L K' cs bytes' ≡ accepted file' → (K ≡ K') × (file ≡ file')
