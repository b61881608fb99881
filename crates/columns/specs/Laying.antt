-- Leaves of one root and level, stored in columns: what adaption and the file's reader write with. Definitions only.
--
--   stretch r l p k   k leaves of root r and level l, from position p on
--   stored i vs m     the columns m with the leaves vs from entry i on
--   Room e m          each of the columns m has e entries or more; reach e m is the test
--   fitting i k p m   whether k leaves fit the columns m from entry i on, and the position after the last 64 bits, from position p on
--   laid i k p m      how many of k leaves `lay` stores: all of them, or none where they don't fit
--   Laid              the contract of `lay`: how many it stored, and that it stored those
--
-- Assumes nothing.
use Rattle.std.specs.Prelude.{◌≡◌, Bool, cond, ◌&&◌, List, ℕ, ◌+◌, ◌≤◌, leb, length}
use Rattle.std.proofs.lemmas.List.Edits.{sets}
use Rattle.paper.specs.Outcome.{rows}
use Rattle.leaves.specs.Leaves.{Leaf, leaf, Columns, columns, columns_of}

abbrev pub stretch : ℕ → ℕ → ℕ → ℕ → List Leaf
stretch r l p k = rows (λ t. leaf r l (p + t)) 0 k

abbrev pub stored : ℕ → List Leaf → Columns → Columns
stored i vs m =
    columns
    (sets m.roots i (columns_of vs).roots)
    (sets m.levels i (columns_of vs).levels)
    (sets m.positions i (columns_of vs).positions)

pub record Room (e : ℕ) (m : Columns) : Type 0 where
  pub in_roots : e ≤ length m.roots
  pub in_levels : e ≤ length m.levels
  pub in_positions : e ≤ length m.positions

abbrev pub reach : ℕ → Columns → Bool
reach e m = leb e (length m.roots) && (leb e (length m.levels) && leb e (length m.positions))

abbrev pub fitting : ℕ → ℕ → ℕ → Columns → Bool
fitting i k p m = leb (p + k) 18446744073709551615 && reach (i + k) m

abbrev pub laid : ℕ → ℕ → ℕ → Columns → ℕ
laid i k p m = cond (fitting i k p m) k 0

pub record Laid (i k r l p count : ℕ) (m m' : Columns) : Type 0 where
  pub answer : count ≡ laid i k p m
  pub memory : m' ≡ stored i (stretch r l p count) m
