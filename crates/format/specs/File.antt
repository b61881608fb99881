-- Document 01, "Grid file": "The file opens with the four bytes 50 47 52 31, then K, then the number of runs R, then R pairs: level, leaf count.
-- Neighbouring runs differ in level; a run may pass from one root to the next. Nothing follows. A list has one file and a file one list."
-- Definitions only.
--
--   tag              "the four bytes 50 47 52 31"
--   Key, key v       what the leaves of a run have in common: their level
--   same_key         whether two keys are the same
--   Run              a key and a leaf count
--   runs_in ks       the runs of leaves with the keys ks: each as long as the key stays
--   runs_of vs       the runs of a list
--   run_bytes rs     their pairs, in order
--   runs_file K rs   the tag, K, R, then the pairs
--   file_of K vs     the file of a list of K roots
--   keys_in rs       the keys of the leaves that the runs stand for
--   Differs k rs     the first of the runs, if any, is of another key than k
--   Apart rs         no run of 0, and "Neighbouring runs differ in level"
--   AreRuns rs vs    the runs rs are those of the list vs: they stand for its leaves' keys, and are apart
--
-- Assumes nothing.
use Rattle.std.specs.Prelude.{◌≡◌, Bool, cond, List, [], ◌∷◌, ◌++◌, map, ℕ, ◌+◌, ◌<◌, eqb, length, replicate}
use Rattle.leaves.specs.Leaves.{Leaf}
use Rattle.numbers.specs.Numbers.{bytes_of}

abbrev pub tag : List ℕ
tag = 80 ∷ 71 ∷ 82 ∷ 49 ∷ []

abbrev pub Key : Type 0
Key = ℕ

abbrev pub key : Leaf → Key
key v = v.level

abbrev pub same_key : Key → Key → Bool
same_key k k' = eqb k k'

pub record Run : Type 0 where
  pub key : Key
  pub count : ℕ

abbrev pub run : Key → ℕ → Run
run k m = record { key = k; count = m }

-- one leaf more before the runs rs
abbrev pub join_run : Key → List Run → List Run
join_run k [] = run k 1 ∷ []
join_run k (r ∷ rs) = cond (same_key k r.key) (run k (r.count + 1) ∷ rs) (run k 1 ∷ r ∷ rs)

unfoldable pub runs_in : List Key → List Run
runs_in [] = []
runs_in (k ∷ ks) = join_run k (runs_in ks)

abbrev pub runs_of : List Leaf → List Run
runs_of vs = runs_in (map key vs)

unfoldable pub run_bytes : List Run → List ℕ
run_bytes [] = []
run_bytes (r ∷ rs) = bytes_of r.key ++ (bytes_of r.count ++ run_bytes rs)

abbrev pub runs_file : ℕ → List Run → List ℕ
runs_file K rs = tag ++ (bytes_of K ++ (bytes_of (length rs) ++ run_bytes rs))

abbrev pub file_of : ℕ → List Leaf → List ℕ
file_of K vs = runs_file K (runs_of vs)

-- ---- what the runs of a list are, however they are found
unfoldable pub keys_in : List Run → List Key
keys_in [] = []
keys_in (r ∷ rs) = replicate r.count r.key ++ keys_in rs

abbrev pub Differs : Key → List Run → Type 0
Differs k [] = Unit {0}
Differs k (r ∷ rs) = k ≡ r.key → ⊥

unfoldable pub Apart : List Run → Type 0
Apart [] = Unit {0}
Apart (r ∷ rs) = (0 < r.count) × (Differs r.key rs × Apart rs)

pub record AreRuns (rs : List Run) (vs : List Leaf) : Type 0 where
  pub keys : map key vs ≡ keys_in rs
  pub apart : Apart rs
