-- The runs of a list that covers, read one after the other, give the list back: a leaf that starts where the one before it ended is the leaf of
-- its level that starts there. Assumes nothing.
use mathlib.Core.Path.{◌≡◌, refl, ap, ap₂, ◌∙◌, sym, subst}
use mathlib.Core.Bool.{Bool, true, false, cond}
use mathlib.Core.List.{List, [], ◌∷◌, ◌++◌}
use Prim.Native.Nat.{ℕ, zero, suc, ◌+◌, ◌-◌, ◌/◌, ◌%◌, ◌≤◌, ◌<◌}
use native.Mathlib.Nat.{mul-div_cancel, mul-mod_left}
use native.Mathlib.Numerals.{add-one}
use native.Mathlib.Omega.{arith}
use lib.ListN.{length}
use borrow.Author.Tests.{lt-ltb, eq-eqb}
use Rattle.leaves.specs.Leaves.{Leaf, leaf, Spot, spot_at, span, start_of, end_of, Covers}
use Rattle.leaves.proofs.Span.{power_pos}
use Rattle.format.specs.File.{Key, same_key, Run, run, join_run, runs_in, runs_of, Differs}
use Rattle.format.specs.Reading.{leaf_from, fits, leaves_from, end_from}
use Rattle.format.proofs.Keys.{same_key_lem, other_key, key_or_not}

module _ (n L K : ℕ) (positive : 0 < n) where
  -- the runs rs are read from c on as the leaves vs, to the end of the last root
  unfoldable pub StandFor : Spot → List Run → List Leaf → Type 0
  StandFor c [] vs = (vs ≡ []) × (c ≡ spot_at K 0)
  StandFor c (r ∷ rs) vs =
      (r.key ≤ L) × (0 < r.count) × (fits n L K c r.key r.count ≡ true) × Differs r.key rs
      × ((rest : List Leaf) × ((vs ≡ leaves_from n L c r.key r.count ++ rest) × StandFor (end_from n L c r.key r.count) rs rest))

  -- a leaf that starts at c
  module _ (c : Spot) (v : Leaf) (starts : start_of n L v ≡ c) where
    next_is : leaf_from n L c v.level ≡ v
    next_is =
        ap₂ (λ (r q : ℕ). leaf r v.level (q / span n L v.level)) (sym (ap (λ (p : Spot). p.root) starts)) (sym (ap (λ (p : Spot). p.cell) starts))
        ∙ ap (leaf v.root v.level) (mul-div_cancel v.position (power_pos n (L - v.level) positive))

    no_rest : c.cell % span n L v.level ≡ 0
    no_rest = ap (λ (q : ℕ). q % span n L v.level) (sym (ap (λ (p : Spot). p.cell) starts)) ∙ mul-mod_left v.position (span n L v.level)

    module _ (shallow : v.level ≤ L) (inside : v.root < K) (vs : List Leaf) where
      -- k leaves more of its level after it
      fits_more : (k : ℕ) → fits n L K (end_of n L v) v.level k ≡ true → fits n L K c v.level (suc k) ≡ true
      unfolding fits
      fits_more k later =
          simp (
            lt-ltb c.root K (subst (λ (r : ℕ). r < K) (ap (λ (p : Spot). p.root) starts) inside),
            eq-eqb (c.cell % span n L v.level) 0 no_rest,
          ) (ap (λ (u : Leaf). fits n L K (end_of n L u) v.level k) next_is ∙ later)

      leaves_more : (k : ℕ) → leaves_from n L c v.level (suc k) ≡ v ∷ leaves_from n L (end_of n L v) v.level k
      unfolding leaves_from
      leaves_more k = ap (λ (u : Leaf). u ∷ leaves_from n L (end_of n L u) v.level k) next_is

      after_more : (k : ℕ) → end_from n L c v.level (suc k) ≡ end_from n L (end_of n L v) v.level k
      unfolding end_from
      after_more k = ap (λ (u : Leaf). end_from n L (end_of n L u) v.level k) next_is

      -- a run of its own
      alone : (rs : List Run) → Differs v.level rs → StandFor (end_of n L v) rs vs → StandFor c (run v.level 1 ∷ rs) (v ∷ vs)
      unfolding StandFor fits leaves_from end_from
      alone rs other f = (
        shallow,
        omega arith,
        fits_more 0 refl,
        other,
        (vs, (sym (ap (λ (us : List Leaf). us ++ vs) (leaves_more 0)), subst (λ (d : Spot). StandFor d rs vs) (sym (after_more 0)) f)),
      )

      -- one leaf more in the first run
      longer : (k : ℕ) (rs : List Run) → StandFor (end_of n L v) (run v.level k ∷ rs) vs → StandFor c (run v.level (suc k) ∷ rs) (v ∷ vs)
      unfolding StandFor
      longer k rs f = (
        shallow,
        omega arith,
        fits_more k f.2,
        f.3,
        (
          f.4.0,
          (
            ap (λ (us : List Leaf). v ∷ us) f.4.1.0 ∙ sym (ap (λ (us : List Leaf). us ++ f.4.0) (leaves_more k)),
            subst (λ (d : Spot). StandFor d rs f.4.0) (sym (after_more k)) f.4.1.1,
          ),
        ),
      )

      joined : (rs : List Run) → StandFor (end_of n L v) rs vs → StandFor c (join_run v.level rs) (v ∷ vs)
      joined [] f = alone [] tt f
      joined (r ∷ rs) f = by (key_or_not v.level r.key)
        where
          by : Dec (v.level ≡ r.key) → StandFor c (join_run v.level (r ∷ rs)) (v ∷ vs)
          by (yes same) =
              subst (λ (us : List Run). StandFor c us (v ∷ vs)) (ap (λ (m : ℕ). run v.level m ∷ rs) (sym (add-one r.count)) ∙ sym (simp (same_key_lem v.level r.key same)))
              (longer r.count rs (subst (λ (l : ℕ). StandFor (end_of n L v) (run l r.count ∷ rs) vs) (sym same) f))
          by (no other) =
              subst (λ (us : List Run). StandFor c us (v ∷ vs)) (sym (simp (other_key v.level r.key other))) (alone (r ∷ rs) other f)

  pub stands_for : (c : Spot) (vs : List Leaf) → Covers n L c vs K → StandFor c (runs_of vs) vs
  unfolding Covers runs_in StandFor
  stands_for c [] f = (refl, f)
  stands_for c (v ∷ vs) f = joined c v f.2 f.0 f.3 vs (runs_of vs) (stands_for (end_of n L v) vs f.4)

pub leaves_count : (n L : ℕ) (c : Spot) (l k : ℕ) → length (leaves_from n L c l k) ≡ k
unfolding leaves_from
leaves_count n L c l zero = refl
leaves_count n L c l (suc k) = ap suc (leaves_count n L (end_of n L (leaf_from n L c l)) l k)

-- ---- how many runs
pub join_few : (l : Key) (rs : List Run) → length (join_run l rs) ≤ suc (length rs)
join_few l [] = omega arith
join_few l (r ∷ rs) = by (same_key l r.key)
  where
    by : (b : Bool) → length (cond b (run l (r.count + 1) ∷ rs) (run l 1 ∷ r ∷ rs)) ≤ suc (suc (length rs))
    by true = omega arith
    by false = omega arith

join_some : (l : Key) (rs : List Run) → 0 < length (join_run l rs)
join_some l [] = omega arith
join_some l (r ∷ rs) = by (same_key l r.key)
  where
    by : (b : Bool) → 0 < length (cond b (run l (r.count + 1) ∷ rs) (run l 1 ∷ r ∷ rs))
    by true = omega arith
    by false = omega arith

pub runs_few : (vs : List Leaf) → length (runs_of vs) ≤ length vs
unfolding runs_in
runs_few [] = omega arith
runs_few (v ∷ vs) = let fewer = runs_few vs in omega (arith, join_few v.level (runs_of vs))

pub runs_some : (vs : List Leaf) → 0 < length vs → 0 < length (runs_of vs)
unfolding runs_in
runs_some [] none = none
runs_some (v ∷ vs) some = join_some v.level (runs_of vs)
