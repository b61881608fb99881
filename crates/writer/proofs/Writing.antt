-- The runs of a list follow from its levels: leaves of one level, before a leaf of another, are the first run. Assumes nothing.
use Rattle.format.proofs.Placed.{run_bytes_few}
use mathlib.Core.Path.{◌≡◌, refl, ap, ◌∙◌, sym}
use mathlib.Core.Bool.{Bool, true, false, cond}
use mathlib.Core.List.{List, [], ◌∷◌, ◌++◌}
use Prim.Native.Nat.{ℕ, zero, suc, ◌+◌, ◌*◌, ◌≤◌}
use native.Mathlib.Nat.{zero-add}
use native.Mathlib.Decide.{ℕ_discrete}
use native.Mathlib.Omega.{arith}
use lib.ListN.{length, drop, get_or, replicate, length-append, length-replicate, drop_of_length-le}
use lib.Seq.{drop-cons}
use borrow.Author.Tests.{eq-eqb, ne_eqb}
use Rattle.std.specs.List.{position_or_len}
use Rattle.paper.specs.Outcome.{rows}
use Rattle.leaves.specs.Leaves.{Columns, leaf_at, leaves}
use Rattle.leaves.specs.Calls.{limit}
use Rattle.numbers.specs.Numbers.{bytes_of}
use Rattle.format.specs.File.{same_key, Run, run, join_run, runs_in, runs_of, run_bytes, runs_file, file_of, keys_in, Differs}
use Rattle.writer.specs.Inner.{level_file, other, Counted}
use Rattle.format.proofs.Keys.{same_key_lem}
use Rattle.format.proofs.Runs.{join_few}
use Rattle.format.proofs.Fitting.{first_run}
use Rattle.format.proofs.AreRuns.{key_runs_are}

-- ---- the first run: its level, and how many levels follow that are the same
differs_join : (m l : ℕ) (rs : List Run) → (m ≡ l → ⊥) → Differs m (join_run l rs)
differs_join m l [] other = other
differs_join m l (r ∷ rs) other = by (same_key l r.key)
  where
    by : (b : Bool) → Differs m (cond b (run l (r.count + 1) ∷ rs) (run l 1 ∷ r ∷ rs))
    by true = other
    by false = other

pub runs_none : (ls : List ℕ) → length ls ≡ 0 → runs_in ls ≡ []
unfolding runs_in
runs_none [] none = refl
runs_none (l ∷ ls) none = absurd (omega arith)

-- a level in front, and its run
pub front_run : (l : ℕ) (ls : List ℕ) → runs_in (l ∷ ls) ≡ run l (1 + position_or_len (other l) ls) ∷ runs_in (drop (position_or_len (other l) ls) ls)
unfolding runs_in
front_run l [] = refl
front_run l (k ∷ ks) = by (ℕ_discrete k l) (front_run l ks)
  where
    by : Dec (k ≡ l) → runs_in (l ∷ ks) ≡ run l (1 + position_or_len (other l) ks) ∷ runs_in (drop (position_or_len (other l) ks) ks)
        → runs_in (l ∷ k ∷ ks) ≡ run l (1 + position_or_len (other l) (k ∷ ks)) ∷ runs_in (drop (position_or_len (other l) (k ∷ ks)) (k ∷ ks))
    by (yes same) shorter =
        let p = position_or_len (other l) ks in
        let there : position_or_len (other l) (k ∷ ks) ≡ suc p = simp (eq-eqb k l same) (omega arith) in
        ap (λ (m : ℕ). join_run l (runs_in (m ∷ ks))) same
        ∙ ap (join_run l) shorter
        ∙ simp (same_key_lem l l refl) (rw there (ap (λ (m : ℕ). run l m ∷ runs_in (drop p ks)) (omega arith)))
    by (no differs) shorter =
        let there : position_or_len (other l) (k ∷ ks) ≡ 0 = simp (ne_eqb k l differs) in
        first_run l (runs_in (k ∷ ks)) (differs_join l k (runs_in ks) (λ same. differs (sym same))) ∙ rw there refl

-- ---- how many runs and bytes at most
pub level_runs_few : (ls : List ℕ) → length (runs_in ls) ≤ length ls
unfolding runs_in
level_runs_few [] = omega arith
level_runs_few (l ∷ ls) = let fewer = level_runs_few ls in omega (arith, join_few l (runs_in ls))

-- ---- the count, run by run: those that are left, and what was counted of all
pub record Along (all rest : List Run) (R b : ℕ) : Type 0 where
  pub runs : R + length rest ≡ length all
  pub bytes : b + length (run_bytes rest) ≡ length (run_bytes all)
  pub leaves : length (keys_in rest) ≤ limit

pub leaves_few : (ls : List ℕ) → length ls ≤ limit → length (keys_in (runs_in ls)) ≤ limit
leaves_few ls few = omega (arith, ap length (key_runs_are ls).0)

pub along_none : (ls : List ℕ) → length ls ≤ limit → Along (runs_in ls) (runs_in ls) 0 0
along_none ls few = record { runs = zero-add _; bytes = zero-add _; leaves = leaves_few ls few }

-- the first of the runs that are left
module _ (r : Run) (rs rest : List Run) (is : rest ≡ r ∷ rs) where
  pub pair_bytes : run_bytes rest ≡ bytes_of r.key ++ (bytes_of r.count ++ run_bytes rs)
  unfolding run_bytes
  pair_bytes = ap run_bytes is

  pub pair_leaves : length (keys_in rest) ≤ limit → (r.count ≤ limit) × (length (keys_in rs) ≤ limit)
  unfolding keys_in
  pair_leaves few =
      let sum = ap (λ (us : List Run). length (keys_in us)) is ∙ length-append (replicate r.count r.key) (keys_in rs) in
      (omega (arith, sum, length-replicate r.count r.key), omega (arith, sum))

  pub along_next : (all : List Run) (R b : ℕ) → Along all rest R b → Along all rs (R + 1) (b + (length (bytes_of r.key) + length (bytes_of r.count)))
  along_next all R b a =
      record {
        runs = omega (arith, a.runs, ap length is);
        bytes =
            omega (
              arith,
              a.bytes,
              ap length pair_bytes,
              length-append (bytes_of r.key) (bytes_of r.count ++ run_bytes rs),
              length-append (bytes_of r.count) (run_bytes rs),
            );
        leaves = (pair_leaves a.leaves).1;
      }

pub along_few : (ls : List ℕ) (rest : List Run) (R b : ℕ) → length ls ≤ limit → Along (runs_in ls) rest R b → (R ≤ limit) × (b ≤ 6 * limit)
along_few ls rest R b few a =
    let one = level_runs_few ls in
    let six = run_bytes_few (runs_in ls) in
    (omega (arith, a.runs), omega (arith, a.bytes))

pub along_done : (ls : List ℕ) (rest : List Run) (R b : ℕ) → Along (runs_in ls) rest R b → rest ≡ [] → Counted ls R b
unfolding run_bytes
along_done ls rest R b a none =
    record {
      runs = omega (arith, a.runs, ap length none);
      bytes = omega (arith, a.bytes, ap (λ (rs : List Run). length (run_bytes rs)) none);
    }

-- ---- the list that stands in three columns
module _ (cs : Columns) where
  runs_rows : (k i : ℕ) → i + k ≡ length cs.levels → runs_of (rows (leaf_at cs) i k) ≡ runs_in (drop i cs.levels)
  unfolding runs_in
  runs_rows zero i ends = sym (ap runs_in (drop_of_length-le cs.levels {i = i} (omega arith)))
  runs_rows (suc k) i ends =
      ap (join_run (get_or cs.levels i 0)) (runs_rows k (suc i) (omega arith)) ∙ sym (ap runs_in (drop-cons cs.levels i 0 (omega arith)))

  pub file_levels : (K : ℕ) → length cs.roots ≡ length cs.levels → file_of K (leaves cs) ≡ level_file K cs.levels
  file_levels K long = ap (runs_file K) (runs_rows (length cs.roots) 0 (omega arith))
