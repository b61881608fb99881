-- Inner contracts: what functions ask and answer that only this house calls. A reader of the promises may skip this file.
-- Here: the file of a list by its levels alone. Definitions only.
--
--   level_file K ls     the file of a list of K roots whose leaves have the levels ls
--   OneLevel ls l       the levels are all l
--   Begins l ls rest    the levels ls are some that are all l, and then rest
--   other l l'          whether the level l' is another than l: there a run of l ends, "Neighbouring runs differ in level"
--   Counted ls R b      there are R runs, and their pairs have b bytes
--
-- That the file by its levels is `file_of` is the law `file_levels` of `proofs/Writing.antt`.
--
-- Assumes nothing.
use Rattle.std.specs.Prelude.{◌≡◌, Bool, not, List, ◌++◌, ℕ, ◌<◌, eqb, length, get_or}
use Rattle.format.specs.File.{runs_in, run_bytes, runs_file}

abbrev pub level_file : ℕ → List ℕ → List ℕ
level_file K ls = runs_file K (runs_in ls)

abbrev pub OneLevel : List ℕ → ℕ → Type 0
OneLevel ls l = (t : ℕ) → t < length ls → get_or ls t 0 ≡ l

pub record Begins (l : ℕ) (ls rest : List ℕ) : Type 0 where
  pub front : List ℕ
  pub all : ls ≡ front ++ rest
  pub level : OneLevel front l

abbrev pub other : ℕ → ℕ → Bool
other l l' = not (eqb l' l)

pub record Counted (ls : List ℕ) (R b : ℕ) : Type 0 where
  pub runs : R ≡ length (runs_in ls)
  pub bytes : b ≡ length (run_bytes (runs_in ls))
