-- What an adaption gives is valid: turn by turn it covers what the old leaves cover, a refined leaf by its children, a family by its parent.
-- Assumes nothing.
use mathlib.Core.Path.{◌≡◌, ap, ◌∙◌, sym, subst, subst⁻¹}
use mathlib.Core.Bool.{true}
use mathlib.Core.List.{List, ◌∷◌, ◌++◌}
use Prim.Native.Nat.{ℕ, zero, suc, ◌+◌, ◌-◌, ◌≤◌, ◌<◌}
use native.Mathlib.Nat.{add-zero, sub-zero}
use native.Mathlib.Numerals.{add-one}
use native.Mathlib.Decide.{dec_lt}
use native.Mathlib.Omega.{arith}
use lib.ListN.{length, drop, drop_of_length-le}
use lib.Seq.{drop-cons}
use Rattle.paper.specs.Outcome.{rows}
use Rattle.leaves.specs.Leaves.{Leaf, nth, leaf, Spot, spot_at, end_of, Covers, Valid}
use Rattle.leaves.proofs.Entries.{level_at}
use Rattle.marks.specs.Marks.{mark}
use Rattle.adaption.specs.Adaption.{child, parent, children_of, merging, joined, gives, adapted}
use Rattle.adaption.specs.Laws.{Merging, Refinable}
use Rattle.adaption.proofs.Covering.{refine_covers, merge_covers}
use Rattle.adaption.proofs.Turns.{from, Clear, from_end, from_refined, from_merged, from_kept, clear_refined, clear_merged, clear_kept, by_turn}

-- the rest of a list after leaf i
pub drop_next : (vs : List Leaf) (i : ℕ) → i < length vs → drop i vs ≡ nth vs i ∷ drop (i + 1) vs
drop_next vs i inside = drop-cons vs i (leaf 0 0 0) inside ∙ ap (λ (k : ℕ). nth vs i ∷ drop k vs) (sym (add-one i))

module _ (n L K : ℕ) (positive : 0 < n) (vs : List Leaf) (ms : List ℕ) where
  -- a family is its parent's children
  drop_family : (j : ℕ) → Merging n vs ms j → (t k : ℕ) → t + k ≡ n
      → drop (j + t) vs ≡ rows (child n (parent n (nth vs j))) t k ++ drop (j + n) vs
  drop_family j m t zero e = ap (λ (k : ℕ). drop (j + k) vs) (sym (add-zero t) ∙ e)
  drop_family j m t (suc k) e =
      let below : t < n = omega arith in
      let inside : j + t < length vs = omega (arith, m.inside) in
      let up : j + t + 1 ≡ j + suc t = omega arith in
      drop_next vs (j + t) inside
      ∙ ap (λ (v : Leaf). v ∷ drop (j + t + 1) vs) (m.sibling t below)
      ∙ ap (λ (us : List Leaf). child n (parent n (nth vs j)) t ∷ us) (ap (λ (i : ℕ). drop i vs) up ∙ drop_family j m (suc t) k (omega arith))

  module _ (refinable : Refinable n L vs ms) (shallow : (i : ℕ) → i < length vs → (nth vs i).level ≤ L) where
    -- one leaf more, whatever becomes of the later ones
    on_refined : (c : Spot) (i : ℕ) → i < length vs → mark ms i ≡ 1 → Covers n L c (drop i vs) K
        → ((d : Spot) → Covers n L d (drop (i + 1) vs) K → Covers n L d (from n positive vs ms (i + 1)) K) → Covers n L c (from n positive vs ms i) K
    unfolding Covers
    on_refined c i inside refined f later =
        let g : Covers n L c (nth vs i ∷ drop (i + 1) vs) K = subst (λ (us : List Leaf). Covers n L c us K) (drop_next vs i inside) f in
        subst⁻¹ (λ (us : List Leaf). Covers n L c us K) (from_refined n positive vs ms i inside refined)
        (refine_covers n L positive (nth vs i) (refinable i inside refined) K c (from n positive vs ms (i + 1))
        (g.0, g.1, g.2, g.3, later (end_of n L (nth vs i)) g.4))

    on_kept : (c : Spot) (i : ℕ) → i < length vs → Clear n positive vs ms i → (mark ms i ≡ 1 → ⊥) → (merging n vs ms i ≡ true → ⊥) → Covers n L c (drop i vs) K
        → ((d : Spot) → Covers n L d (drop (i + 1) vs) K → Covers n L d (from n positive vs ms (i + 1)) K) → Covers n L c (from n positive vs ms i) K
    unfolding Covers
    on_kept c i inside clear other none f later =
        let g : Covers n L c (nth vs i ∷ drop (i + 1) vs) K = subst (λ (us : List Leaf). Covers n L c us K) (drop_next vs i inside) f in
        subst⁻¹ (λ (us : List Leaf). Covers n L c us K) (from_kept n positive vs ms i clear inside other none)
        (g.0, g.1, g.2, g.3, later (end_of n L (nth vs i)) g.4)

    on_merged : (c : Spot) (i : ℕ) → Merging n vs ms i → Covers n L c (drop i vs) K
        → ((d : Spot) → Covers n L d (drop (i + n) vs) K → Covers n L d (from n positive vs ms (i + n)) K) → Covers n L c (from n positive vs ms i) K
    unfolding Covers
    on_merged c i m f later =
        let u = parent n (nth vs i) in
        let deeper : (nth vs i).level - 1 < L = omega (arith, m.deep, m.inside, shallow i (omega (arith, m.inside))) in
        let split : drop i vs ≡ children_of n u ++ drop (i + n) vs = ap (λ (k : ℕ). drop k vs) (sym (add-zero i)) ∙ drop_family i m 0 n (omega arith) in
        let g : Covers n L c (u ∷ drop (i + n) vs) K = merge_covers n L positive u deeper K c (drop (i + n) vs) (subst (λ (us : List Leaf). Covers n L c us K) split f) in
        subst⁻¹ (λ (us : List Leaf). Covers n L c us K) (from_merged n positive vs ms i m) (g.0, g.1, g.2, g.3, later (end_of n L u) g.4)

    covers_from : (k i : ℕ) → length vs - i ≤ k → Clear n positive vs ms i → (c : Spot) → Covers n L c (drop i vs) K → Covers n L c (from n positive vs ms i) K
    covers_from zero i few clear c f =
        let past : length vs ≤ i = omega arith in
        subst (λ (us : List Leaf). Covers n L c us K) (drop_of_length-le vs past ∙ sym (from_end n positive vs ms i past)) f
    covers_from (suc k) i few clear c f = by (dec_lt i (length vs)) (covers_from k)
      where
        by : Dec (i < length vs)
            → ((j : ℕ) → length vs - j ≤ k → Clear n positive vs ms j → (d : Spot) → Covers n L d (drop j vs) K → Covers n L d (from n positive vs ms j) K)
            → Covers n L c (from n positive vs ms i) K
        by (yes inside) later =
            by_turn n positive vs ms i
            (λ refined. on_refined c i inside refined f (later (i + 1) (omega arith) (clear_refined n positive vs ms i clear refined)))
            (λ other m. on_merged c i m f (later (i + n) (omega arith) (clear_merged n positive vs ms i clear m)))
            (λ other none. on_kept c i inside clear other none f (later (i + 1) (omega arith) (clear_kept n positive vs ms i clear none)))
        by (no beyond) later =
            let past : length vs ≤ i = omega arith in
            subst (λ (us : List Leaf). Covers n L c us K) (drop_of_length-le vs past ∙ sym (from_end n positive vs ms i past)) f

  pub adapted_valid : Valid n L K vs → Refinable n L vs ms → Valid n L K (adapted n vs ms)
  adapted_valid valid refinable =
      subst (λ (k : ℕ). Valid n L K (joined (gives n vs ms) 0 k)) (sub-zero (length vs))
      (covers_from refinable (λ i inside. level_at n L K (spot_at 0 0) vs i valid inside) (length vs) 0 (omega arith) (λ j before m. absurd (omega arith)) (spot_at 0 0) valid)
