-- The leaves of a list that covers, one by one: each is sound, and each starts where the one before it ends. Assumes nothing.
use mathlib.Core.Path.{◌≡◌, refl, ap, ◌∙◌, sym}
use mathlib.Core.List.{List, [], ◌∷◌}
use Prim.Native.Nat.{ℕ, zero, suc, ◌^◌, ◌≤◌, ◌<◌}
use native.Mathlib.Omega.{arith}
use lib.ListN.{length, length-map}
use Rattle.paper.specs.Outcome.{rows}
use Rattle.leaves.specs.Leaves.{Leaf, nth, leaf_at, leaves, columns_of, Spot, start_of, end_of, Covers, Valid}

module _ (n L K : ℕ) where
  pub level_at : (c : Spot) (vs : List Leaf) (j : ℕ) → Covers n L c vs K → j < length vs → (nth vs j).level ≤ L
  unfolding Covers
  level_at c [] j f inside = absurd (omega arith)
  level_at c (v ∷ vs) zero f inside = f.0
  level_at c (v ∷ vs) (suc j) f inside = level_at (end_of n L v) vs j f.4 (omega arith)

  pub position_at_lem : (c : Spot) (vs : List Leaf) (j : ℕ) → Covers n L c vs K → j < length vs → (nth vs j).position < n ^ (nth vs j).level
  unfolding Covers
  position_at_lem c [] j f inside = absurd (omega arith)
  position_at_lem c (v ∷ vs) zero f inside = f.1
  position_at_lem c (v ∷ vs) (suc j) f inside = position_at_lem (end_of n L v) vs j f.4 (omega arith)

  starts_at : (c : Spot) (vs : List Leaf) → Covers n L c vs K → 0 < length vs → start_of n L (nth vs 0) ≡ c
  unfolding Covers
  starts_at c [] f some = absurd (omega arith)
  starts_at c (v ∷ vs) f some = f.2

  pub follows : (c : Spot) (vs : List Leaf) (j : ℕ) → Covers n L c vs K → suc j < length vs → start_of n L (nth vs (suc j)) ≡ end_of n L (nth vs j)
  unfolding Covers
  follows c [] j f inside = absurd (omega arith)
  follows c (v ∷ vs) zero f inside = starts_at (end_of n L v) vs f.4 (omega arith)
  follows c (v ∷ vs) (suc j) f inside = follows (end_of n L v) vs j f.4 (omega arith)

-- a list ends one number of roots
pub one_ending : (n L K K' : ℕ) (c : Spot) (vs : List Leaf) → Covers n L c vs K → Covers n L c vs K' → K ≡ K'
unfolding Covers
one_ending n L K K' c [] f g = ap (λ (p : Spot). p.root) (sym f ∙ g)
one_ending n L K K' c (v ∷ vs) f g = one_ending n L K K' (end_of n L v) vs f.4 g.4

-- the leaves of one root at least are some
pub some_leaf : (n L K : ℕ) (vs : List Leaf) → 0 < K → Valid n L K vs → 0 < length vs
unfolding Covers
some_leaf n L K [] some valid = absurd (let none : 0 ≡ K = ap (λ (p : Spot). p.root) valid in omega arith)
some_leaf n L K (v ∷ vs) some valid = omega arith

-- ---- the leaves of a list's own columns are the list
columns_later : (v : Leaf) (us : List Leaf) (i k : ℕ) → rows (leaf_at (columns_of (v ∷ us))) (suc i) k
    ≡ rows (leaf_at (columns_of us)) i k
columns_later v us i zero = refl
columns_later v us i (suc k) = ap (λ (xs : List Leaf). leaf_at (columns_of us) i ∷ xs) (columns_later v us (suc i) k)

columns_rows : (us : List Leaf) → rows (leaf_at (columns_of us)) 0 (length us) ≡ us
columns_rows [] = refl
columns_rows (v ∷ us) = ap (λ (xs : List Leaf). v ∷ xs) (columns_later v us 0 (length us) ∙ columns_rows us)

pub leaves_of_columns : (vs : List Leaf) → leaves (columns_of vs) ≡ vs
leaves_of_columns vs = ap (rows (leaf_at (columns_of vs)) 0) (length-map vs (λ (v : Leaf). v.root)) ∙ columns_rows vs
