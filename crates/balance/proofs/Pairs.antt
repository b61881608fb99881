-- The leaves in turn, as the loop meets them: what settles two leaves, and what the answer is at the first, at one more and at the end.
-- Assumes nothing.
use mathlib.Core.Path.{◌≡◌, ap, ◌∙◌, sym}
use mathlib.Core.Bool.{Bool, true, not, ◌&&◌, ◌||◌, or-true, and_assoc}
use Prim.Native.Nat.{ℕ, ◌+◌, ◌-◌, ◌≤◌, ◌<◌}
use native.Mathlib.Nat.{sub-zero}
use native.Mathlib.Omega.{arith}
use lib.Dec.{leb, eqb}
use borrow.Author.Tests.{ne_eqb}
use Rattle.paper.specs.Outcome.{rows}
use Rattle.paper.proofs.Scan.{rows_next, rows_done}
use Rattle.leaves.specs.Leaves.{Leaf}
use Rattle.balance.specs.Balance.{near, balanced_after, is_balanced}

-- ---- two leaves
abbrev pub near_levels : Leaf → Leaf → Bool
near_levels u v = leb u.level (v.level + 1) && leb v.level (u.level + 1)

module _ (u v : Leaf) where
  pub near_levels_lem : near_levels u v ≡ true → near u v ≡ true
  near_levels_lem close = ap (λ (t : Bool). not (eqb u.root v.root) || t) close ∙ or-true (not (eqb u.root v.root))

  pub near_roots : (u.root ≡ v.root → ⊥) → near u v ≡ true
  near_roots other = simp (ne_eqb u.root v.root other)

-- ---- the answer of the leaves from i on, of m, after leaf i - 1
abbrev pub balanced_from : (ℕ → Leaf) → ℕ → ℕ → Bool
balanced_from entry m i = balanced_after (entry (i - 1)) (rows entry i (m - i))

module _ (entry : ℕ → Leaf) (m : ℕ) where
  pub pairs_start : 0 < m → is_balanced (rows entry 0 m) ≡ balanced_from entry m 1
  unfolding is_balanced
  pairs_start some = ap (λ (k : ℕ). is_balanced (rows entry 0 k)) (sym (sub-zero m)) ∙ ap is_balanced (rows_next entry m 0 some)

  module _ (i : ℕ) where
    pub pairs_done : m ≤ i → balanced_from entry m i ≡ true
    unfolding balanced_after
    pairs_done past = ap (balanced_after (entry (i - 1))) (rows_done entry m i past)

    pairs_next : i < m → balanced_from entry m i ≡ (near (entry (i - 1)) (entry i) && balanced_from entry m (i + 1))
    unfolding balanced_after
    pairs_next inside =
        let same : i ≡ i + 1 - 1 = omega arith in
        ap (balanced_after (entry (i - 1))) (rows_next entry m i inside)
        ∙ ap (λ (j : ℕ). near (entry (i - 1)) (entry i) && balanced_after (entry j) (rows entry (i + 1) (m - (i + 1)))) same

    -- one more, after those before it, of which all are near
    pub pairs_more : i < m → (all close : Bool) → close ≡ near_levels (entry (i - 1)) (entry i)
        → (all && balanced_from entry m i) ≡ ((all && (not (eqb (entry (i - 1)).root (entry i).root) || close)) && balanced_from entry m (i + 1))
    pairs_more inside all close levels =
        let apart = not (eqb (entry (i - 1)).root (entry i).root) in
        let rest = balanced_from entry m (i + 1) in
        ap (λ (t : Bool). all && t) (pairs_next inside)
        ∙ sym (and_assoc all (near (entry (i - 1)) (entry i)) rest)
        ∙ ap (λ (t : Bool). (all && (apart || t)) && rest) (sym levels)
