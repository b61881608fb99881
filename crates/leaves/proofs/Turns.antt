-- The list check as its loops meet it: one leaf more, and the end. Assumes nothing.
use mathlib.Core.Path.{◌≡◌, ap, ◌∙◌, sym}
use mathlib.Core.List.{List}
use Prim.Native.Nat.{ℕ, ◌+◌, ◌-◌, ◌≤◌, ◌<◌}
use native.Mathlib.Numerals.{add-one}
use borrow.Author.Tests.{eq-eqb, ne_eqb}
use Rattle.paper.specs.Outcome.{Outcome, refused, rows}
use Rattle.paper.proofs.Scan.{fault_none, rows_next, rows_done}
use Rattle.leaves.specs.Leaves.{Leaf, Spot, end_of}
use Rattle.leaves.specs.Calls.{leaf_fault, walked}

module _ (n L K : ℕ) {A : Type 0} (rest : Outcome A) (entry : ℕ → Leaf) (m i : ℕ) (c : Spot) where
  pub walk_next : i < m → leaf_fault n L K c (entry i) ≡ 0
      → walked n L K i c (rows entry i (m - i)) rest ≡ walked n L K (i + 1) (end_of n L (entry i)) (rows entry (i + 1) (m - (i + 1))) rest
  unfolding walked
  walk_next inside none =
      ap (λ (vs : List Leaf). walked n L K i c vs rest) (rows_next entry m i inside)
      ∙ fault_none (leaf_fault n L K c (entry i)) i _ none
      ∙ ap (λ (k : ℕ). walked n L K k (end_of n L (entry i)) (rows entry (i + 1) (m - (i + 1))) rest) (sym (add-one i))

  -- ---- no leaf is left
  module _ (past : m ≤ i) where
    pub walk_short_root : (c.root ≡ K → ⊥) → walked n L K i c (rows entry i (m - i)) rest ≡ refused 12 i
    unfolding walked
    walk_short_root other =
        ap (λ (vs : List Leaf). walked n L K i c vs rest) (rows_done entry m i past) ∙ simp (ne_eqb c.root K other)

    pub walk_full : c.root ≡ K → c.cell ≡ 0 → walked n L K i c (rows entry i (m - i)) rest ≡ rest
    unfolding walked
    walk_full full none =
        ap (λ (vs : List Leaf). walked n L K i c vs rest) (rows_done entry m i past) ∙ simp (eq-eqb c.root K full, eq-eqb c.cell 0 none)
