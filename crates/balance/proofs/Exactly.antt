-- Yes is exactly the paper's sentence: the test of two leaves is its condition on them, and each leaf is tested with the next.
-- Assumes nothing.
use mathlib.Core.Path.{◌≡◌, refl, subst, sym}
use mathlib.Core.Logic.{◌↔◌}
use mathlib.Core.Bool.{true, and-eq-true_iff}
use mathlib.Core.List.{List, [], ◌∷◌}
use Prim.Native.Nat.{ℕ, zero, suc, ◌+◌, ◌<◌}
use native.Mathlib.Decide.{ℕ_discrete}
use native.Mathlib.Numerals.{add-one}
use native.Mathlib.Omega.{arith}
use lib.Dec.{leb}
use lib.ListN.{length}
use borrow.Author.Tests.{le-leb, leb-true, eq-eqb}
use Rattle.leaves.specs.Leaves.{Leaf, nth}
use Rattle.balance.specs.Balance.{near, balanced_after, is_balanced, Near, Balanced}
use Rattle.balance.proofs.Pairs.{near_levels_lem, near_roots}

-- ---- two leaves
module _ (u v : Leaf) where
  near_sound : near u v ≡ true → u.root ≡ v.root → Near u v
  near_sound h same =
      let levels = (and-eq-true_iff (leb u.level (v.level + 1)) (leb v.level (u.level + 1))).0 (simp (eq-eqb u.root v.root same) at h) in
      record { not_far_below = leb-true _ _ levels.0; not_far_above = leb-true _ _ levels.1 }

  near_complete : (u.root ≡ v.root → Near u v) → near u v ≡ true
  near_complete f = by (ℕ_discrete u.root v.root)
    where
      by : Dec (u.root ≡ v.root) → near u v ≡ true
      by (yes same) =
          near_levels_lem u v ((and-eq-true_iff (leb u.level (v.level + 1)) (leb v.level (u.level + 1))).1
          (le-leb u.level (v.level + 1) (f same).not_far_below, le-leb v.level (u.level + 1) (f same).not_far_above))
      by (no other) = near_roots u v other

-- ---- all of them; leaf j is the next after leaf i
abbrev Next : List Leaf → ℕ → ℕ → Type 0
Next vs i j = j < length vs → (nth vs i).root ≡ (nth vs j).root → Near (nth vs i) (nth vs j)

after_sound : (u : Leaf) (vs : List Leaf) → balanced_after u vs ≡ true → (i : ℕ) → Next (u ∷ vs) i (suc i)
unfolding balanced_after
after_sound u [] h i inside same = absurd (omega arith)
after_sound u (v ∷ vs) h zero inside same = near_sound u v ((and-eq-true_iff (near u v) (balanced_after v vs)).0 h).0 same
after_sound u (v ∷ vs) h (suc i) inside same = after_sound v vs ((and-eq-true_iff (near u v) (balanced_after v vs)).0 h).1 i (omega arith) same

after_complete : (u : Leaf) (vs : List Leaf) → ((i : ℕ) → Next (u ∷ vs) i (suc i)) → balanced_after u vs ≡ true
unfolding balanced_after
after_complete u [] f = refl
after_complete u (v ∷ vs) f =
    (and-eq-true_iff (near u v) (balanced_after v vs)).1
    (near_complete u v (f 0 (omega arith)), after_complete v vs (λ i inside. f (suc i) (omega arith)))

pub exact : (vs : List Leaf) → is_balanced vs ≡ true ↔ Balanced vs
unfolding is_balanced
exact [] = ((λ h i inside same. absurd (omega arith)), (λ f. refl))
exact (u ∷ vs) = (
  (λ h i. subst (Next (u ∷ vs) i) (sym (add-one i)) (after_sound u vs h i)),
  (λ f. after_complete u vs (λ i. subst (Next (u ∷ vs) i) (add-one i) (f i))),
)
