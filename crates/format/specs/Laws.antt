-- What is promised of the format, as statements. n is the number of children, L the highest level. Definitions only.
--
--   ValidGrid g   the grid g is valid
--   FileOf bs g   the bytes bs are a file of the grid g: the tag, K, R, and runs that are those of its leaves
--   OneFile       a list has runs, and no others; bytes are read as a grid exactly when they are a file of it, which is valid; every other byte
--                 string is refused, by a fault that stands whatever bytes follow it, unless it is that bytes are missing: 19, or 18 with
--                 fewer than four bytes; a fault's place is an offset in the file, or its end; so "A list has one
--                 file and a file one list", also where K is not given
--
-- Assumes nothing.
use Rattle.std.specs.Prelude.{◌≡◌, ◌↔◌, List, ◌++◌, ℕ, ◌≤◌, ◌<◌, length}
use Rattle.paper.specs.Outcome.{accepted, refused}
use Rattle.leaves.specs.Leaves.{Leaf, Valid}
use Rattle.leaves.specs.Calls.{limit, most}
use Rattle.numbers.specs.Laws.{Bytes}
use Rattle.format.specs.File.{Run, runs_of, runs_file, AreRuns}
use Rattle.format.specs.Reading.{Grid, grid_at}

module _ (n L : ℕ) where
  pub record ValidGrid (g : Grid) : Type 0 where
    pub some_root : 0 < g.roots
    pub few_roots : g.roots ≤ most
    pub few : length g.leaves ≤ limit
    pub valid : Valid n L g.roots g.leaves

  pub record FileOf (bs : List ℕ) (g : Grid) : Type 0 where
    pub grid : ValidGrid g
    pub runs : List Run
    pub are : AreRuns runs g.leaves
    pub file : bs ≡ runs_file g.roots runs

  pub record OneFile : Type 0 where
    pub runs_are : (vs : List Leaf) → AreRuns (runs_of vs) vs
    pub runs_only : (rs : List Run) (vs : List Leaf) → AreRuns rs vs → rs ≡ runs_of vs
    pub reads : (bs : List ℕ) (g : Grid) → Bytes bs → grid_at n L bs ≡ accepted g ↔ FileOf bs g
    pub stands : (bs more : List ℕ) (number at : ℕ) → grid_at n L bs ≡ refused number at → (number ≡ 18 → 4 ≤ length bs) → (number ≡ 19 → ⊥)
        → grid_at n L (bs ++ more) ≡ refused number at
    pub placed : (bs : List ℕ) (number at : ℕ) → grid_at n L bs ≡ refused number at → at ≤ length bs
    pub one_list : (bs : List ℕ) (g g' : Grid) → FileOf bs g → FileOf bs g' → g ≡ g'
    pub one_file : (bs bs' : List ℕ) (g g' : Grid) → FileOf bs g → FileOf bs' g' → g.leaves ≡ g'.leaves → bs ≡ bs'
