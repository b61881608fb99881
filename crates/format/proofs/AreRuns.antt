-- A list has runs, and no others: its keys, leaf by leaf, say where a run goes on and where it ends. Assumes nothing.
use mathlib.Core.Path.{◌≡◌, refl, ap, ◌∙◌, sym, subst}
use mathlib.Core.List.{List, [], ◌∷◌, ◌++◌, map}
use Prim.Native.Nat.{ℕ, zero, suc, ◌+◌, ◌<◌}
use native.Mathlib.Numerals.{add-one}
use native.Mathlib.Omega.{arith}
use lib.ListN.{replicate}
use Rattle.leaves.specs.Leaves.{Leaf}
use Rattle.format.specs.File.{Key, key, Run, run, join_run, runs_of, keys_in, Differs, Apart, AreRuns, runs_in}
use Rattle.format.proofs.Keys.{same_key_lem, other_key, key_or_not}
use Rattle.format.proofs.Fitting.{first_run}

-- a leaf of the first run's key, and of another
join_same : (l : Key) (r : Run) (rs : List Run) → l ≡ r.key → join_run l (r ∷ rs) ≡ run l (r.count + 1) ∷ rs
join_same l r rs same = simp (same_key_lem l r.key same)

join_other : (l : Key) (r : Run) (rs : List Run) → (l ≡ r.key → ⊥) → join_run l (r ∷ rs) ≡ run l 1 ∷ r ∷ rs
join_other l r rs other = simp (other_key l r.key other)

-- one leaf more before runs that are apart
join_keys : (l : Key) (rs : List Run) → keys_in (join_run l rs) ≡ l ∷ keys_in rs
unfolding keys_in
join_keys l [] = refl
join_keys l (r ∷ rs) = by (key_or_not l r.key)
  where
    by : Dec (l ≡ r.key) → keys_in (join_run l (r ∷ rs)) ≡ l ∷ (replicate r.count r.key ++ keys_in rs)
    by (yes same) =
        ap keys_in (join_same l r rs same)
        ∙ ap (λ (k : ℕ). replicate k l ++ keys_in rs) (add-one r.count)
        ∙ ap (λ (m : ℕ). l ∷ (replicate r.count m ++ keys_in rs)) same
    by (no other) = ap keys_in (join_other l r rs other)

join_apart : (l : Key) (rs : List Run) → Apart rs → Apart (join_run l rs)
unfolding Apart
join_apart l [] f = (omega arith, (tt, tt))
join_apart l (r ∷ rs) f = by (key_or_not l r.key)
  where
    by : Dec (l ≡ r.key) → Apart (join_run l (r ∷ rs))
    by (yes same) =
        subst Apart (sym (join_same l r rs same)) (omega arith, (subst (λ (m : ℕ). Differs m rs) (sym same) f.1.0, f.1.1))
    by (no other) = subst Apart (sym (join_other l r rs other)) (omega arith, (other, f))

pub key_runs_are : (ks : List Key) → (keys_in (runs_in ks) ≡ ks) × Apart (runs_in ks)
unfolding runs_in keys_in Apart
key_runs_are [] = (refl, tt)
key_runs_are (k ∷ ks) =
    let later = key_runs_are ks in
    (join_keys k (runs_in ks) ∙ ap (λ (xs : List Key). k ∷ xs) later.0, join_apart k (runs_in ks) later.1)

pub runs_are : (vs : List Leaf) → AreRuns (runs_of vs) vs
runs_are vs =
    let f = key_runs_are (map key vs) in
    record {
      keys = sym f.0;
      apart = f.1;
    }

-- ---- no others
run_keys : (l : Key) (k : ℕ) (rs : List Run) → Differs l rs → runs_in (keys_in rs) ≡ rs → runs_in (replicate (suc k) l ++ keys_in rs) ≡ run l (suc k) ∷ rs
unfolding runs_in
run_keys l zero rs other later = ap (join_run l) later ∙ first_run l rs other
run_keys l (suc k) rs other later =
    ap (join_run l) (run_keys l k rs other later) ∙ simp (same_key_lem l l refl) (ap (λ (m : ℕ). run l m ∷ rs) (add-one (suc k)))

only : (rs : List Run) → Apart rs → runs_in (keys_in rs) ≡ rs
unfolding keys_in Apart runs_in
only [] f = refl
only (r ∷ rs) f = by r.count (only rs f.1.1) f.0
  where
    by : (k : ℕ) → runs_in (keys_in rs) ≡ rs → 0 < k → runs_in (replicate k r.key ++ keys_in rs) ≡ run r.key k ∷ rs
    by zero later some = absurd (omega arith)
    by (suc k) later some = run_keys r.key k rs f.1.0 later

pub runs_only : (rs : List Run) (vs : List Leaf) → AreRuns rs vs → rs ≡ runs_of vs
runs_only rs vs f = sym (ap runs_in f.keys ∙ only rs f.apart)
