-- The pass turn by turn: what the leaves from number i on give is what the turn at i makes, then what the leaves after it give. A turn never
-- lands inside a merging family (Clear), so the eldest of each is met. Assumes nothing.
use mathlib.Core.Path.{◌≡◌, refl, ap, ◌∙◌, sym, subst⁻¹}
use mathlib.Core.Bool.{Bool, true, false, true≢false}
use mathlib.Core.List.{List, [], ◌∷◌, ◌++◌}
use Prim.Native.Nat.{ℕ, zero, suc, ◌+◌, ◌-◌, ◌≤◌, ◌<◌}
use native.Mathlib.Nat.{add-zero, add-suc}
use native.Mathlib.Numerals.{add-one}
use native.Mathlib.Decide.{dec_lt, ℕ_discrete}
use native.Mathlib.Omega.{arith}
use lib.ListN.{length}
use borrow.Author.Tests.{eq-eqb, ne_eqb}
use Rattle.leaves.specs.Leaves.{Leaf, nth, leaf}
use Rattle.marks.specs.Marks.{mark}
use Rattle.adaption.specs.Adaption.{joined, children_of, parent, merging, gives}
use Rattle.adaption.specs.Inner.{turn, gain, stride, new_level, new_position, made}
use Rattle.columns.specs.Laying.{stretch}
use Rattle.adaption.specs.Laws.{Merging}
use Rattle.adaption.proofs.Family.{merging_is, is_merging, alone, not_so}
use Rattle.adaption.proofs.Gives.{gives_refined, gives_younger, gives_merged, gives_kept}

module _ (n : ℕ) (positive : 0 < n) (vs : List Leaf) (ms : List ℕ) where
  -- what the leaves from number i on give
  abbrev pub from : ℕ → List Leaf
  from i = joined (gives n vs ms) i (length vs - i)

  -- no merging family that begins before leaf i reaches it
  abbrev pub Clear : ℕ → Type 0
  Clear i = (j : ℕ) → j < i → merging n vs ms j ≡ true → j + n ≤ i

  pub from_end : (i : ℕ) → length vs ≤ i → from i ≡ []
  unfolding joined
  from_end i past = let none : length vs - i ≡ 0 = omega arith in ap (joined (gives n vs ms) i) none

  from_next : (i : ℕ) → i < length vs → from i ≡ gives n vs ms i ++ from (i + 1)
  unfolding joined
  from_next i inside =
      let more : length vs - i ≡ suc (length vs - (i + 1)) = omega arith in
      ap (joined (gives n vs ms) i) more ∙ ap (λ (k : ℕ). gives n vs ms i ++ joined (gives n vs ms) k (length vs - (i + 1))) (sym (add-one i))

  -- ---- the three turns
  pub from_refined : (i : ℕ) → i < length vs → mark ms i ≡ 1 → from i ≡ children_of n (nth vs i) ++ from (i + 1)
  from_refined i inside refined = from_next i inside ∙ ap (λ (us : List Leaf). us ++ from (i + 1)) (gives_refined n positive vs ms i refined)

  past_younger : (j t k : ℕ) → Merging n vs ms j → 0 < t → t + k ≡ n → from (j + t) ≡ from (j + n)
  past_younger j t zero m later e = ap (λ (k : ℕ). from (j + k)) (sym (add-zero t) ∙ e)
  past_younger j t (suc k) m later e =
      let below : t < n = omega arith in
      let inside : j + t < length vs = omega (arith, m.inside) in
      let next : j + t + 1 ≡ j + (t + 1) = omega arith in
      from_next (j + t) inside
      ∙ ap (λ (us : List Leaf). us ++ from (j + t + 1)) (gives_younger n positive vs ms j t m below later)
      ∙ ap from next
      ∙ past_younger j (t + 1) k m (omega arith) (omega (arith, add-suc t k))

  pub from_merged : (j : ℕ) → Merging n vs ms j → from j ≡ parent n (nth vs j) ∷ from (j + n)
  from_merged j m =
      from_next j (omega (arith, m.inside))
      ∙ ap (λ (us : List Leaf). us ++ from (j + 1)) (gives_merged n positive vs ms j m)
      ∙ ap (λ (us : List Leaf). parent n (nth vs j) ∷ us) (past_younger j 1 (n - 1) m (omega arith) (omega arith))

  module _ (i : ℕ) (clear : Clear i) where
    clear_next : (merging n vs ms i ≡ true → ⊥) → Clear (i + 1)
    clear_next none j before m = by (ℕ_discrete j i) (clear j)
      where
        by : Dec (j ≡ i) → (j < i → merging n vs ms j ≡ true → j + n ≤ i) → j + n ≤ i + 1
        by (yes here) earlier = absurd (none (ap (merging n vs ms) (sym here) ∙ m))
        by (no other) earlier = let reach = earlier (omega arith) m in omega arith

    pub clear_refined : mark ms i ≡ 1 → Clear (i + 1)
    clear_refined refined = clear_next (λ m. omega (arith, refined, two m))
      where
        two : merging n vs ms i ≡ true → mark ms i ≡ 2
        two m = ap (mark ms) (sym (add-zero i)) ∙ (merging_is n vs ms i m).carries 0 positive

    pub clear_kept : (merging n vs ms i ≡ true → ⊥) → Clear (i + 1)
    clear_kept none = clear_next none

    pub clear_merged : Merging n vs ms i → Clear (i + n)
    clear_merged m j before other = by (dec_lt j i) (clear j)
      where
        by : Dec (j < i) → (j < i → merging n vs ms j ≡ true → j + n ≤ i) → j + n ≤ i + n
        by (yes early) earlier = let reach = earlier early other in omega arith
        by (no late) earlier =
            let place : i + (j - i) ≡ j = omega arith in
            let none = alone n vs ms positive i (j - i) m (merging_is n vs ms (i + (j - i)) (ap (merging n vs ms) place ∙ other)) (omega arith) in
            omega arith

    pub from_kept : i < length vs → (mark ms i ≡ 1 → ⊥) → (merging n vs ms i ≡ true → ⊥) → from i ≡ nth vs i ∷ from (i + 1)
    from_kept inside other none =
        from_next i inside ∙ ap (λ (us : List Leaf). us ++ from (i + 1)) (gives_kept n positive vs ms i other free)
      where
        free : (j : ℕ) → j ≤ i → i < j + n → merging n vs ms j ≡ true → ⊥
        free j upto reach m = by (ℕ_discrete j i)
          where
            by : Dec (j ≡ i) → ⊥
            by (yes here) = none (ap (merging n vs ms) (sym here) ∙ m)
            by (no earlier) = let short = clear j (omega arith) m in omega arith

  -- ---- which of the three
  pub by_turn : {A : Type 0} (i : ℕ) → (mark ms i ≡ 1 → A) → ((mark ms i ≡ 1 → ⊥) → Merging n vs ms i → A)
      → ((mark ms i ≡ 1 → ⊥) → (merging n vs ms i ≡ true → ⊥) → A) → A
  by_turn {A} i refined merged kept = first (ℕ_discrete (mark ms i) 1)
    where
      second : (b : Bool) → merging n vs ms i ≡ b → (mark ms i ≡ 1 → ⊥) → A
      second true m other = merged other (merging_is n vs ms i m)
      second false m other = kept other (λ yes_too. true≢false (sym yes_too ∙ m))

      first : Dec (mark ms i ≡ 1) → A
      first (yes one) = refined one
      first (no other) = second (merging n vs ms i) refl other

  -- the leaf i and a turn t
  abbrev made_by : ℕ → ℕ → List Leaf
  made_by i t = stretch (nth vs i).root (new_level t (nth vs i).level) (new_position n t (nth vs i).position) (gain n t)

  pub record Turn (i : ℕ) : Type 0 where
    pub makes : from i ≡ made n vs ms i ++ from (i + stride n (turn n vs ms i))
    pub onward : Clear (i + stride n (turn n vs ms i))
    pub within : i + stride n (turn n vs ms i) ≤ length vs
    pub refines : turn n vs ms i ≡ 1 → mark ms i ≡ 1
    pub merges : turn n vs ms i ≡ 2 → Merging n vs ms i

  turned : (i t : ℕ) → turn n vs ms i ≡ t → from i ≡ made_by i t ++ from (i + stride n t) → Clear (i + stride n t) → i + stride n t ≤ length vs
      → (t ≡ 1 → mark ms i ≡ 1) → (t ≡ 2 → Merging n vs ms i) → Turn i
  turned i t e makes onward within refines merges =
      record {
        makes = subst⁻¹ (λ (k : ℕ). from i ≡ made_by i k ++ from (i + stride n k)) e makes;
        onward = subst⁻¹ (λ (k : ℕ). Clear (i + stride n k)) e onward;
        within = subst⁻¹ (λ (k : ℕ). i + stride n k ≤ length vs) e within;
        refines = λ one. refines (sym e ∙ one);
        merges = λ two. merges (sym e ∙ two);
      }

  module _ (i : ℕ) (inside : i < length vs) (clear : Clear i) where
    at_refined : mark ms i ≡ 1 → Turn i
    at_refined refined =
        turned i 1 (simp (eq-eqb (mark ms i) 1 refined)) (from_refined i inside refined) (clear_refined i clear refined) (omega arith)
        (λ one. refined) (λ two. absurd (omega arith))

    at_merged : (mark ms i ≡ 1 → ⊥) → Merging n vs ms i → Turn i
    at_merged other m =
        turned i 2 (simp (ne_eqb (mark ms i) 1 other, is_merging n vs ms i m))
        (from_merged i m ∙ ap (λ (p : ℕ). leaf (nth vs i).root ((nth vs i).level - 1) p ∷ from (i + n)) (sym (add-zero _)))
        (clear_merged i clear m) m.inside (λ one. absurd (omega arith)) (λ two. m)

    at_kept : (mark ms i ≡ 1 → ⊥) → (merging n vs ms i ≡ true → ⊥) → Turn i
    at_kept other none =
        turned i 0 (simp (ne_eqb (mark ms i) 1 other, not_so (merging n vs ms i) none))
        (from_kept i clear inside other none ∙ ap (λ (p : ℕ). leaf (nth vs i).root (nth vs i).level p ∷ from (i + 1)) (sym (add-zero (nth vs i).position)))
        (clear_kept i clear none) (omega arith) (λ one. absurd (omega arith)) (λ two. absurd (omega arith))

    pub turn_at : Turn i
    turn_at = by_turn i at_refined at_merged at_kept
