-- What each leaf gives, in the paper's four cases: refined, first of a merging family, another of it, kept. Assumes nothing.
use mathlib.Core.Path.{◌≡◌, refl, ap, ◌∙◌, subst}
use mathlib.Core.Bool.{true}
use mathlib.Core.List.{List, [], ◌∷◌}
use Prim.Native.Nat.{ℕ, ◌+◌, ◌≤◌, ◌<◌}
use native.Mathlib.Nat.{add-zero, mod-lt}
use native.Mathlib.Omega.{arith}
use borrow.Author.Tests.{eq-eqb, ne_eqb}
use Rattle.leaves.specs.Leaves.{Leaf, nth}
use Rattle.marks.specs.Marks.{mark}
use Rattle.adaption.specs.Adaption.{children_of, parent, merging, eldest, gives}
use Rattle.adaption.specs.Laws.{Merging}
use Rattle.adaption.proofs.Family.{is_merging, eldest_in, not_so}

module _ (n : ℕ) (positive : 0 < n) (vs : List Leaf) (ms : List ℕ) where
  pub gives_refined : (i : ℕ) → mark ms i ≡ 1 → gives n vs ms i ≡ children_of n (nth vs i)
  gives_refined i refined = simp (eq-eqb (mark ms i) 1 refined)

  -- a leaf that carries 2 is not refined
  unrefined : (m : ℕ) → m ≡ 2 → m ≡ 1 → ⊥
  unrefined m two one = omega arith

  -- leaf j + t of the family that begins at j
  module _ (j t : ℕ) (m : Merging n vs ms j) (below : t < n) where
    its_family : merging n vs ms (eldest n vs (j + t)) ≡ true
    its_family = ap (merging n vs ms) (eldest_in n vs ms j t m below) ∙ is_merging n vs ms j m

    pub gives_younger : 0 < t → gives n vs ms (j + t) ≡ []
    gives_younger later =
        let other : eldest n vs (j + t) ≡ j + t → ⊥ = λ e. omega (arith, eldest_in n vs ms j t m below) in
        simp (ne_eqb (mark ms (j + t)) 1 (unrefined (mark ms (j + t)) (m.carries t below)), its_family, ne_eqb (eldest n vs (j + t)) (j + t) other)

    pub gives_eldest : t ≡ 0 → gives n vs ms (j + t) ≡ parent n (nth vs (j + t)) ∷ []
    gives_eldest first =
        let here : eldest n vs (j + t) ≡ j + t = eldest_in n vs ms j t m below ∙ omega arith in
        simp (ne_eqb (mark ms (j + t)) 1 (unrefined (mark ms (j + t)) (m.carries t below)), its_family, eq-eqb (eldest n vs (j + t)) (j + t) here)

  pub gives_merged : (j : ℕ) → Merging n vs ms j → gives n vs ms j ≡ parent n (nth vs j) ∷ []
  gives_merged j m = subst (λ (i : ℕ). gives n vs ms i ≡ parent n (nth vs i) ∷ []) (add-zero j) (gives_eldest j 0 m positive refl)

  pub gives_kept : (i : ℕ) → (mark ms i ≡ 1 → ⊥) → ((j : ℕ) → j ≤ i → i < j + n → merging n vs ms j ≡ true → ⊥) → gives n vs ms i ≡ nth vs i ∷ []
  gives_kept i other none =
      let few = mod-lt (nth vs i).position positive in
      let alone = not_so (merging n vs ms (eldest n vs i)) (none (eldest n vs i) (omega arith) (omega arith)) in
      simp (ne_eqb (mark ms i) 1 other, alone)
