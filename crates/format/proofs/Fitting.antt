-- Runs that fit cover: a leaf of level l that may start at a cell divisible by what it holds starts there. Assumes nothing.
use mathlib.Core.Path.{◌≡◌, refl, ap, ◌∙◌, sym, subst}
use mathlib.Core.Bool.{true, ◌&&◌, and-eq-true_iff}
use mathlib.Core.List.{List, [], ◌∷◌, ◌++◌}
use Prim.Native.Nat.{ℕ, zero, suc, ◌-◌, ◌*◌, ◌/◌, ◌%◌, ◌^◌, ◌≤◌, ◌<◌}
use native.Mathlib.Nat.{div-add-mod', div-lt_iff_lt-mul}
use native.Mathlib.Numerals.{add-one}
use native.Mathlib.Decide.{ℕ_discrete}
use native.Mathlib.Omega.{arith}
use lib.Dec.{ltb, eqb}
use borrow.Author.Tests.{ltb-true, eqb-true}
use Rattle.leaves.specs.Leaves.{Leaf, Spot, spot_at, span, past, start_of, end_of, Covers}
use Rattle.leaves.proofs.Span.{power_pos, fill, past_le, end_last, end_within}
use Rattle.format.specs.File.{Key, Run, run, join_run, runs_in, runs_of, Differs}
use Rattle.format.specs.Reading.{leaf_from, fits, leaves_from, end_from}
use Rattle.format.proofs.Keys.{same_key_lem, other_key}

module _ (n L K : ℕ) (positive : 0 < n) where
  -- a cell of a root
  abbrev pub Proper : Spot → Type 0
  Proper c = c.cell < n ^ L

  module _ (c : Spot) (l : ℕ) (proper : Proper c) (shallow : l ≤ L) where
    next_below : (leaf_from n L c l).position < n ^ l
    next_below = (div-lt_iff_lt-mul (power_pos n (L - l) positive)).1 (omega (arith, fill n L l shallow))

    next_starts : c.cell % span n L l ≡ 0 → start_of n L (leaf_from n L c l) ≡ c
    next_starts whole =
        let same : c.cell / span n L l * span n L l ≡ c.cell = omega (arith, div-add-mod' c.cell (span n L l)) in
        ap (spot_at c.root) same

    end_proper : Proper (end_of n L (leaf_from n L c l))
    end_proper = by (ℕ_discrete (past n L (leaf_from n L c l)) (n ^ L))
      where
        by : Dec (past n L (leaf_from n L c l) ≡ n ^ L) → Proper (end_of n L (leaf_from n L c l))
        by (yes last) = subst Proper (sym (end_last n L (leaf_from n L c l) last)) (power_pos n L positive)
        by (no within) =
            subst Proper (sym (end_within n L (leaf_from n L c l) within)) (let upto = past_le n L (leaf_from n L c l) shallow next_below in omega arith)

  pub after_proper : (c : Spot) (l k : ℕ) → Proper c → l ≤ L → Proper (end_from n L c l k)
  unfolding end_from
  after_proper c l zero proper shallow = proper
  after_proper c l (suc k) proper shallow = after_proper (end_of n L (leaf_from n L c l)) l k (end_proper c l proper shallow) shallow

  pub fits_covers : (c : Spot) (l k : ℕ) (vs : List Leaf) → Proper c → l ≤ L → fits n L K c l k ≡ true → Covers n L (end_from n L c l k) vs K
      → Covers n L c (leaves_from n L c l k ++ vs) K
  unfolding Covers fits leaves_from end_from
  fits_covers c l zero vs proper shallow fit f = f
  fits_covers c l (suc k) vs proper shallow fit f =
      let a = (and-eq-true_iff (ltb c.root K) (eqb (c.cell % span n L l) 0 && fits n L K (end_of n L (leaf_from n L c l)) l k)).0 fit in
      let b = (and-eq-true_iff (eqb (c.cell % span n L l) 0) (fits n L K (end_of n L (leaf_from n L c l)) l k)).0 a.1 in (
        shallow,
        next_below c l proper shallow,
        next_starts c l proper shallow (eqb-true (c.cell % span n L l) 0 b.0),
        ltb-true c.root K a.0,
        fits_covers (end_of n L (leaf_from n L c l)) l k vs (end_proper c l proper shallow) shallow b.1 f,
      )

-- ---- the leaves of a run, before leaves whose first run is of another level, are a run
pub first_run : (l : Key) (rs : List Run) → Differs l rs → join_run l rs ≡ run l 1 ∷ rs
first_run l [] other = refl
first_run l (r ∷ rs) other = simp (other_key l r.key other)

pub run_of : (n L : ℕ) (c : Spot) (l k : ℕ) (vs : List Leaf) → Differs l (runs_of vs) → runs_of (leaves_from n L c l (suc k) ++ vs) ≡ run l (suc k) ∷ runs_of vs
unfolding runs_in leaves_from
run_of n L c l zero vs other = first_run l (runs_of vs) other
run_of n L c l (suc k) vs other =
    ap (join_run l) (run_of n L (end_of n L (leaf_from n L c l)) l k vs other)
    ∙ simp (same_key_lem l l refl) (ap (λ (m : ℕ). run l m ∷ runs_of vs) (add-one (suc k)))
