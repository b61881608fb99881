-- Reading and writing undo each other: a list that is written is read, and the bytes that were read are written. Assumes nothing.
use mathlib.Core.Path.{◌≡◌, ap, ◌∙◌, sym}
use mathlib.Core.Bool.{true, not}
use mathlib.Core.List.{List}
use Prim.Native.Nat.{ℕ, ◌≤◌, ◌<◌}
use native.Mathlib.Omega.{arith}
use lib.ListN.{length}
use Rattle.paper.specs.Outcome.{Outcome, accepted, passed, and_then}
use Rattle.paper.specs.Memory.{room_for}
use Rattle.paper.proofs.Scan.{accepted_of}
use Rattle.leaves.specs.Leaves.{Columns, leaves, columns_of, equal_columns, room, spot_at}
use Rattle.leaves.specs.Calls.{limit, listed}
use Rattle.leaves.specs.Laws.{ValidList}
use Rattle.leaves.proofs.Columns.{leaves_length, columns_valid}
use Rattle.leaves.proofs.Listed.{columns_sound, listed_passed, listed_accepted, valid_passes, room_gives}
use Rattle.leaves.proofs.Entries.{some_leaf, leaves_of_columns, one_ending}
use Rattle.numbers.specs.Numbers.{highest}
use Rattle.format.specs.File.{file_of}
use Rattle.format.specs.Reading.{Grid, grid_at}
use Rattle.format.specs.Laws.{ValidGrid, FileOf}
use Rattle.paper.proofs.Tests.{passed_by}
use Rattle.format.proofs.Taking.{then_accepted}
use Rattle.format.proofs.ReadBack.{read_back}
use Rattle.format.proofs.Accepting.{valid_grid, accepted_file}
use Rattle.format.proofs.OneFile.{file_is}
use Rattle.writer.specs.Calls.{write}
use Rattle.reader.specs.Calls.{read}
use Rattle.gridfile.specs.Laws.{RoundTrip}

-- ---- a list that was written
module _ (n L K : ℕ) (cs : Columns) (bytes file : List ℕ) (h : write n L K cs bytes ≡ accepted file) where
  abbrev due : Outcome (List ℕ)
  due = room_for (length (file_of K (leaves cs))) (length bytes) (file_of K (leaves cs))

  inside : (listed n L K true true cs passed ≡ passed) × (due ≡ accepted file)
  inside = listed_accepted n L K true true cs due file h

  wrote_list : ValidList n L K cs
  wrote_list = columns_sound n L K true true cs inside.0

  pub wrote_file : file_of K (leaves cs) ≡ file
  wrote_file = room_gives (length (file_of K (leaves cs))) (length bytes) (file_of K (leaves cs)) file inside.1

one_roots : (n L K K' : ℕ) (cs : Columns) (bytes bytes' file file' : List ℕ)
    → write n L K cs bytes ≡ accepted file → write n L K' cs bytes' ≡ accepted file' → (K ≡ K') × (file ≡ file')
one_roots n L K K' cs bytes bytes' file file' h h' =
    let same = one_ending n L K K' (spot_at 0 0) (leaves cs) (wrote_list n L K cs bytes file h).valid (wrote_list n L K' cs bytes' file' h').valid in
    (same, sym (wrote_file n L K cs bytes file h) ∙ ap (λ (k : ℕ). file_of k (leaves cs)) same ∙ wrote_file n L K' cs bytes' file' h')

module _ (n L : ℕ) (positive : 0 < n) (low : L ≤ highest) where
  saves : (K : ℕ) (cs : Columns) (bytes file : List ℕ) (m : Columns) → write n L K cs bytes ≡ accepted file → equal_columns m ≡ true
      → read n L file m ≡ room_for (length (leaves cs)) (room m) (record { roots = K; leaves = leaves cs })
  saves K cs bytes file m h equal =
      let sound = wrote_list n L K cs bytes file h in
      let few : length (leaves cs) ≤ limit = omega (arith, sound.few, leaves_length cs) in
      ap (λ (bs : List ℕ). read n L bs m) (sym (wrote_file n L K cs bytes file h))
      ∙ passed_by (not (equal_columns m)) 11 0 _ (ap not equal)
      ∙ ap (λ (o : Outcome Grid). and_then o (λ (g : Grid). room_for (length g.leaves) (room m) g))
      (read_back n L positive low K (leaves cs) sound.some_root sound.few_roots few sound.valid)

  -- ---- a list that was read
  pub read_grid : (bs : List ℕ) (m : Columns) (g : Grid) → read n L bs m ≡ accepted g → grid_at n L bs ≡ accepted g
  read_grid bs m g h =
      let a = accepted_of (not (equal_columns m)) 11 0 _ g h in
      let b = then_accepted (grid_at n L bs) (λ (x : Grid). room_for (length x.leaves) (room m) x) g a.1 in
      b.1.0 ∙ ap accepted (room_gives (length b.0.leaves) (room m) b.0 g b.1.1)

  -- the columns of a valid grid are a valid list
  grid_columns : (g : Grid) → ValidGrid n L g → ValidList n L g.roots (columns_of g.leaves)
  grid_columns g v =
      columns_valid n L g.roots g.leaves v.some_root v.few_roots (some_leaf n L g.roots g.leaves v.some_root v.valid) v.few v.valid

  pub loads_list : (bs : List ℕ) (m : Columns) (g : Grid) → read n L bs m ≡ accepted g → ValidList n L g.roots (columns_of g.leaves)
  loads_list bs m g h = grid_columns g (valid_grid n L positive bs g (read_grid bs m g h))

  module _ (g : Grid) (bs : List ℕ) (f : FileOf n L bs g) where
    abbrev cs : Columns
    cs = columns_of g.leaves

    same_file : file_of g.roots (leaves cs) ≡ bs
    same_file = ap (file_of g.roots) (leaves_of_columns g.leaves) ∙ sym (file_is n L positive low bs g f)

    rewrites : (bytes : List ℕ) → write n L g.roots cs bytes ≡ room_for (length bs) (length bytes) bs
    rewrites bytes =
        listed_passed n L g.roots true true cs _ (valid_passes n L g.roots cs (grid_columns g f.grid))
        ∙ ap (λ (file : List ℕ). room_for (length file) (length bytes) file) same_file

  pub round_trip : RoundTrip n L
  round_trip =
      record {
        saved = saves;
        loaded = λ bs m g bytes all h. rewrites g bs (accepted_file n L positive bs g all (read_grid bs m g h)) bytes;
        one_roots = one_roots n L;
      }
