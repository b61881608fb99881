-- Leaves stored in columns, column by column; stored after those at the front they make the front longer. Assumes nothing.
use mathlib.Core.Path.{◌≡◌, ap, ◌∙◌, sym}
use mathlib.Core.List.{List, ◌++◌, map, map-append}
use Prim.Native.Nat.{ℕ, ◌+◌, ◌≤◌}
use native.Mathlib.Omega.{arith}
use lib.ListN.{length, length-map}
use lib.Seq.{sets, length-sets}
use borrow.Author.Tests.{le-leb}
use Rattle.paper.specs.Outcome.{rows}
use Rattle.paper.specs.Memory.{written}
use Rattle.paper.proofs.Front.{map_rows, sets_append, written_run, written_length}
use Rattle.leaves.specs.Leaves.{Leaf, leaf, Columns, columns_of, front}
use Rattle.leaves.proofs.Columns.{columns_same}
use Rattle.columns.specs.Laying.{stretch, stored, Room, laid, Laid}

-- ---- a stretch, column by column
module _ (i r l p k : ℕ) (m m' : Columns) where
  pub stored_all : m'.roots ≡ sets m.roots i (rows (λ t. r) 0 k) → m'.levels ≡ sets m.levels i (rows (λ t. l) 0 k)
      → m'.positions ≡ sets m.positions i (rows (λ t. p + t) 0 k) → m' ≡ stored i (stretch r l p k) m
  stored_all in_r in_l in_p =
      columns_same m' (stored i (stretch r l p k) m)
      (in_r ∙ ap (sets m.roots i) (sym (map_rows (λ (v : Leaf). v.root) (λ t. leaf r l (p + t)) 0 k)))
      (in_l ∙ ap (sets m.levels i) (sym (map_rows (λ (v : Leaf). v.level) (λ t. leaf r l (p + t)) 0 k)))
      (in_p ∙ ap (sets m.positions i) (sym (map_rows (λ (v : Leaf). v.position) (λ t. leaf r l (p + t)) 0 k)))

  -- so many
  pub stored_as : (g : ℕ) → g ≡ k → m' ≡ stored i (stretch r l p g) m → m' ≡ stored i (stretch r l p k) m
  stored_as g e f = f ∙ ap (λ (n : ℕ). stored i (stretch r l p n) m) e

module _ (i k p : ℕ) (m : Columns) where
  -- all of them, where they fit
  pub laid_whole : p + k ≤ 18446744073709551615 → Room (i + k) m → laid i k p m ≡ k
  laid_whole narrow room =
      simp (
        le-leb (p + k) 18446744073709551615 narrow,
        le-leb (i + k) (length m.roots) room.in_roots,
        le-leb (i + k) (length m.levels) room.in_levels,
        le-leb (i + k) (length m.positions) room.in_positions,
      )

  module _ (r l : ℕ) where
    -- where they fit, what was laid is all of them
    pub laid_all : (count : ℕ) (m' : Columns) → p + k ≤ 18446744073709551615 → Room (i + k) m → Laid i k r l p count m m'
        → m' ≡ stored i (stretch r l p k) m
    laid_all count m' narrow room f =
        f.memory ∙ ap (λ (g : ℕ). stored i (stretch r l p g) m) (f.answer ∙ laid_whole narrow room)

-- ---- the columns stay as long as they were
module _ (i : ℕ) (vs : List Leaf) (m m' : Columns) (f : m' ≡ stored i vs m) where
  pub roots_long : length m'.roots ≡ length m.roots
  roots_long = ap (λ (x : Columns). length x.roots) f ∙ length-sets m.roots i (columns_of vs).roots

  pub levels_long : length m'.levels ≡ length m.levels
  levels_long = ap (λ (x : Columns). length x.levels) f ∙ length-sets m.levels i (columns_of vs).levels

  pub positions_long : length m'.positions ≡ length m.positions
  positions_long = ap (λ (x : Columns). length x.positions) f ∙ length-sets m.positions i (columns_of vs).positions

column_long : (g : Leaf → ℕ) (done : List Leaf) (old : List ℕ) → length done ≤ length old → length (written (map g done) old) ≡ length old
column_long g done old room = written_length (map g done) old (omega (arith, length-map done g))

module _ (vs : List Leaf) (m m' : Columns) (f : m' ≡ front vs m) (room : Room (length vs) m) where
  pub roots_stay : length m'.roots ≡ length m.roots
  roots_stay = ap (λ (x : Columns). length x.roots) f ∙ column_long (λ (v : Leaf). v.root) vs m.roots room.in_roots

  pub levels_stay : length m'.levels ≡ length m.levels
  levels_stay = ap (λ (x : Columns). length x.levels) f ∙ column_long (λ (v : Leaf). v.level) vs m.levels room.in_levels

  pub positions_stay : length m'.positions ≡ length m.positions
  positions_stay = ap (λ (x : Columns). length x.positions) f ∙ column_long (λ (v : Leaf). v.position) vs m.positions room.in_positions

-- ---- leaves after leaves
column_after : (g : Leaf → ℕ) (i : ℕ) (xs ys : List Leaf) (old : List ℕ)
    → sets (sets old i (map g xs)) (i + length xs) (map g ys) ≡ sets old i (map g (xs ++ ys))
column_after g i xs ys old =
    ap (λ (k : ℕ). sets (sets old i (map g xs)) (i + k) (map g ys)) (sym (length-map xs g))
    ∙ sets_append old i (map g xs) (map g ys)
    ∙ ap (sets old i) (sym (map-append g xs ys))

pub stored_after : (i : ℕ) (xs ys : List Leaf) (m : Columns) → stored (i + length xs) ys (stored i xs m) ≡ stored i (xs ++ ys) m
stored_after i xs ys m =
    columns_same (stored (i + length xs) ys (stored i xs m)) (stored i (xs ++ ys) m)
    (column_after (λ (v : Leaf). v.root) i xs ys m.roots)
    (column_after (λ (v : Leaf). v.level) i xs ys m.levels)
    (column_after (λ (v : Leaf). v.position) i xs ys m.positions)

-- ---- leaves after those at the front
column_more : (g : Leaf → ℕ) (done more : List Leaf) (old : List ℕ) → length done + length more ≤ length old
    → sets (written (map g done) old) (length done) (map g more) ≡ written (map g (done ++ more)) old
column_more g done more old room =
    ap (λ (k : ℕ). sets (written (map g done) old) k (map g more)) (sym (length-map done g))
    ∙ written_run (map g done) (map g more) old (omega (arith, length-map done g, length-map more g))
    ∙ ap (λ (xs : List ℕ). written xs old) (sym (map-append g done more))

pub front_more : (done more : List Leaf) (m : Columns) → Room (length done + length more) m
    → stored (length done) more (front done m) ≡ front (done ++ more) m
front_more done more m room =
    columns_same (stored (length done) more (front done m)) (front (done ++ more) m)
    (column_more (λ (v : Leaf). v.root) done more m.roots room.in_roots)
    (column_more (λ (v : Leaf). v.level) done more m.levels room.in_levels)
    (column_more (λ (v : Leaf). v.position) done more m.positions room.in_positions)
