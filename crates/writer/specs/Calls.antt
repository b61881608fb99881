-- Document 01, "Refusal numbers": writing a grid file, and what it leaves behind. Definitions only.
--
--   "List calls: 17, 11, then each leaf in turn 1, 5, 12 ..; then .. 14"; 14 no room, place = bytes needed
--
--   write          the call, of the list in the columns cs, into lent bytes: its file
--   FileWritten    the contract of the call: it answers how many bytes the file has
--
-- Assumes nothing.
use Rattle.std.specs.Prelude.{true, List, ℕ, length}
use Rattle.std.specs.declared.result.Result.{Result}
use Rattle.paper.specs.Outcome.{Outcome, mapped}
use Rattle.paper.specs.Memory.{written, room_for, Fulfils}
use Rattle.paper.specs.declared.Refusal.{Refusal}
use Rattle.paper.specs.Refusals.{outcome_of}
use Rattle.tree.specs.Anchors.{HIGHEST}
use Rattle.leaves.specs.Leaves.{CHILDREN, Columns, leaves}
use Rattle.leaves.specs.Calls.{listed}
use Rattle.format.specs.File.{file_of}

abbrev pub write : ℕ → ℕ → ℕ → Columns → List ℕ → Outcome (List ℕ)
write n L K cs bytes =
    listed n L K true true cs
    (room_for (length (file_of K (leaves cs))) (length bytes) (file_of K (leaves cs)))

abbrev pub FileWritten : ℕ → Result ℕ Refusal → Columns → List ℕ → List ℕ → Type 0
FileWritten k r cs bytes bytes' = Fulfils outcome_of (mapped length) written (write CHILDREN HIGHEST k cs bytes) r bytes bytes'
