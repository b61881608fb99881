-- The children of a leaf cover what it covers: the first starts where it starts, each next where the one before ends, and the last ends where
-- it ends. So a list covers with the leaf exactly when it covers with its children. Assumes nothing.
use mathlib.Core.Path.{◌≡◌, refl, ap, ◌∙◌, sym, subst}
use mathlib.Core.Bool.{cond}
use mathlib.Core.List.{List, ◌∷◌, ◌++◌}
use Prim.Native.Nat.{ℕ, zero, suc, ◌+◌, ◌-◌, ◌*◌, ◌^◌, ◌≤◌, ◌<◌}
use native.Mathlib.Nat.{add-zero, mul_comm, mul_assoc, mul-add, mul-one, mul-lt-mul_of_pos_right, mul-le-mul_left, lt_of_mul-lt-mul_left, pow-succ'}
use native.Mathlib.Omega.{arith}
use lib.Dec.{eqb}
use Rattle.paper.specs.Outcome.{rows}
use Rattle.leaves.specs.Leaves.{Leaf, Spot, spot_at, span, past, start_of, end_of, Covers}
use Rattle.leaves.proofs.Span.{power_pos, fill, end_within}
use Rattle.adaption.specs.Adaption.{child, children_of}

module _ (n L : ℕ) (positive : 0 < n) (u : Leaf) (deeper : u.level < L) where
  -- a leaf holds n times what its child holds
  parts : span n L u.level ≡ n * span n L (u.level + 1)
  parts =
      let one_more : L - u.level ≡ suc (L - (u.level + 1)) = omega arith in
      ap (λ (k : ℕ). n ^ k) one_more ∙ pow-succ' n (L - (u.level + 1))

  scaled : (q : ℕ) → n * q * span n L (u.level + 1) ≡ q * span n L u.level
  scaled q =
      ap (λ (k : ℕ). k * span n L (u.level + 1)) (mul_comm n q) ∙ mul_assoc q n (span n L (u.level + 1))
      ∙ ap (λ (k : ℕ). q * k) (sym parts)

  first_starts : start_of n L (child n u 0) ≡ start_of n L u
  first_starts =
      ap (λ (k : ℕ). spot_at u.root (k * span n L (u.level + 1))) (add-zero (n * u.position)) ∙ ap (spot_at u.root) (scaled u.position)

  last_ends : (t : ℕ) → t + 1 ≡ n → end_of n L (child n u t) ≡ end_of n L u
  last_ends t last =
      let next : n * u.position + t + 1 ≡ n * (u.position + 1) = omega (arith, mul-add n u.position 1, mul-one n) in
      let same : past n L (child n u t) ≡ past n L u = ap (λ (k : ℕ). k * span n L (u.level + 1)) next ∙ scaled (u.position + 1) in
      ap (λ (k : ℕ). cond (eqb k (n ^ L)) (spot_at (u.root + 1) 0) (spot_at u.root k)) same

  module _ (below : u.position < n ^ u.level) where
    -- positions of the children
    child_below : (t : ℕ) → t < n → n * u.position + t < n ^ (u.level + 1)
    child_below t small =
        let next : u.position + 1 ≤ n ^ u.level = omega arith in
        let one_more : u.level + 1 ≡ suc u.level = omega arith in
        omega (arith, mul-le-mul_left n next, mul-add n u.position 1, mul-one n, pow-succ' n u.level, ap (λ (k : ℕ). n ^ k) one_more)

    next_starts : (t : ℕ) → t + 1 < n → end_of n L (child n u t) ≡ start_of n L (child n u (t + 1))
    next_starts t inside =
        let up : n * u.position + t + 1 ≡ n * u.position + (t + 1) = omega arith in
        let less : n * u.position + t + 1 < n ^ (u.level + 1) = omega (arith, child_below (t + 1) inside) in
        let short = mul-lt-mul_of_pos_right less (power_pos n (L - (u.level + 1)) positive) in
        let shallow : u.level + 1 ≤ L = omega arith in
        end_within n L (child n u t) (λ e. omega (arith, short, fill n L (u.level + 1) shallow))
        ∙ ap (λ (k : ℕ). spot_at u.root (k * span n L (u.level + 1))) up

  module _ (K : ℕ) (ws : List Leaf) where
    -- from child t on
    refine_from : u.position < n ^ u.level → u.root < K → Covers n L (end_of n L u) ws K → (t k : ℕ) → t + suc k ≡ n
        → Covers n L (start_of n L (child n u t)) (rows (child n u) t (suc k) ++ ws) K
    unfolding Covers
    refine_from below inside rest t zero e =
        let last : t + 1 ≡ n = omega arith in
        (omega arith, child_below below t (omega arith), refl, inside, subst (λ (c : Spot). Covers n L c ws K) (sym (last_ends t last)) rest)
    refine_from below inside rest t (suc k) e =
        let one_more : t + 1 ≡ suc t = omega arith in
        let later : t + 1 < n = omega arith in (
          omega arith,
          child_below below t (omega arith),
          refl,
          inside,
          subst (λ (c : Spot). Covers n L c (rows (child n u) (suc t) (suc k) ++ ws) K)
              (sym (next_starts below t later ∙ ap (λ (j : ℕ). start_of n L (child n u j)) one_more))
              (refine_from below inside rest (suc t) k (omega arith)),
        )

    merge_from : u.position < n ^ u.level → (c : Spot) (t k : ℕ) → t + suc k ≡ n → Covers n L c (rows (child n u) t (suc k) ++ ws) K
        → Covers n L (end_of n L u) ws K
    unfolding Covers
    merge_from below c t zero e f =
        let last : t + 1 ≡ n = omega arith in subst (λ (d : Spot). Covers n L d ws K) (last_ends t last) f.4
    merge_from below c t (suc k) e f = merge_from below (end_of n L (child n u t)) (suc t) k (omega arith) f.4

  module _ (K : ℕ) (c : Spot) (ws : List Leaf) where
    several : suc (n - 1) ≡ n
    several = omega arith

    pub refine_covers : Covers n L c (u ∷ ws) K → Covers n L c (children_of n u ++ ws) K
    unfolding Covers
    refine_covers f =
        subst (λ (d : Spot). Covers n L d (children_of n u ++ ws) K) (first_starts ∙ f.2)
        (subst (λ (k : ℕ). Covers n L (start_of n L (child n u 0)) (rows (child n u) 0 k ++ ws) K) several
        (refine_from K ws f.1 f.3 f.4 0 (n - 1) (omega arith)))

    merge_chain : Covers n L c (rows (child n u) 0 (suc (n - 1)) ++ ws) K → Covers n L c (u ∷ ws) K
    unfolding Covers
    merge_chain f =
        let one_more : u.level + 1 ≡ suc u.level = omega arith in
        let below : u.position < n ^ u.level =
        lt_of_mul-lt-mul_left n (omega (arith, f.1, pow-succ' n u.level, ap (λ (k : ℕ). n ^ k) one_more)) in
        (omega arith, below, sym first_starts ∙ f.2, f.3, merge_from K ws below c 0 (n - 1) (omega arith) f)

    pub merge_covers : Covers n L c (children_of n u ++ ws) K → Covers n L c (u ∷ ws) K
    merge_covers f = merge_chain (subst (λ (k : ℕ). Covers n L c (rows (child n u) 0 k ++ ws) K) (sym several) f)
