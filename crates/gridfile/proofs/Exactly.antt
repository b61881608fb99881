-- A file is read exactly when the lent columns are equally long, the bytes are a file, and its leaves have room. Assumes nothing.
use mathlib.Core.Path.{◌≡◌, ap, ◌∙◌, subst}
use mathlib.Core.Logic.{◌↔◌}
use mathlib.Core.Bool.{true, not}
use mathlib.Core.List.{List}
use Prim.Native.Nat.{ℕ, ◌≤◌, ◌<◌}
use lib.Dec.{ltb}
use lib.ListN.{length}
use borrow.Author.Tests.{ltb-false, le-ltb, not-false}
use Rattle.paper.specs.Outcome.{Outcome, accepted}
use Rattle.paper.specs.Memory.{room_for}
use Rattle.paper.proofs.Tests.{passed_by}
use Rattle.paper.proofs.Scan.{accepted_of}
use Rattle.leaves.specs.Leaves.{Columns, equal_columns, room}
use Rattle.leaves.proofs.Listed.{room_gives}
use Rattle.numbers.specs.Numbers.{highest}
use Rattle.numbers.specs.Laws.{Bytes}
use Rattle.format.specs.Reading.{Grid, grid_at}
use Rattle.format.specs.Laws.{FileOf}
use Rattle.format.proofs.Tests.{then_is}
use Rattle.format.proofs.Taking.{then_accepted}
use Rattle.format.proofs.OneFile.{one_file}
use Rattle.reader.specs.Calls.{read}

module _ (n L : ℕ) (positive : 0 < n) (low : L ≤ highest) (bs : List ℕ) (m : Columns) (g : Grid) where
  abbrev Readable : Type 0
  Readable = (equal_columns m ≡ true) × (FileOf n L bs g × (length g.leaves ≤ room m))

  -- what becomes of the grid of the file
  abbrev laid : Grid → Outcome Grid
  laid x = room_for (length x.leaves) (room m) x

  sound : Bytes bs → read n L bs m ≡ accepted g → Readable
  sound all h =
      let equal = accepted_of (not (equal_columns m)) 11 0 _ g h in
      let found = then_accepted (grid_at n L bs) laid g equal.1 in
      let x = found.0 in
      let fits = (accepted_of (ltb (room m) (length x.leaves)) 14 (length x.leaves) (accepted x) g found.1.1).0 in
      let file = ((one_file n L positive low).reads bs x all).0 found.1.0 in (
        not-false (equal_columns m) equal.0,
        subst (λ (y : Grid). FileOf n L bs y × (length y.leaves ≤ room m)) (room_gives (length x.leaves) (room m) x g found.1.1)
            (file, ltb-false (room m) (length x.leaves) fits),
      )

  complete : Bytes bs → Readable → read n L bs m ≡ accepted g
  complete all (equal, (file, enough)) =
      passed_by (not (equal_columns m)) 11 0 _ (ap not equal)
      ∙ then_is (grid_at n L bs) laid g (((one_file n L positive low).reads bs g all).1 file)
      ∙ passed_by (ltb (room m) (length g.leaves)) 14 (length g.leaves) (accepted g) (le-ltb (room m) (length g.leaves) enough)

  pub read_exactly : Bytes bs → read n L bs m ≡ accepted g ↔ Readable
  read_exactly all = (sound all, complete all)
