-- The uniform start is a valid list with a weight 1 for each leaf, so the call for its shares accepts. Assumes nothing.
use mathlib.Core.Path.{◌≡◌, refl, ap₂, ◌∙◌, sym}
use mathlib.Core.Bool.{Bool, true, not}
use mathlib.Core.List.{List, [], ◌∷◌, map}
use Prim.Native.Nat.{ℕ, suc, ◌+◌, ◌≤◌, ◌<◌}
use native.Mathlib.Omega.{arith}
use lib.Dec.{eqb}
use lib.ListN.{length, length-map}
use borrow.Author.Tests.{eq-eqb, ne_eqb, le-ltb}
use Rattle.paper.specs.Outcome.{Outcome, accepted, scan}
use Rattle.paper.specs.Memory.{room_for}
use Rattle.tree.specs.Anchors.{HIGHEST}
use Rattle.leaves.specs.Leaves.{CHILDREN, Leaf, columns_of, room}
use Rattle.leaves.specs.Calls.{out_of_range, listed}
use Rattle.leaves.specs.Laws.{ValidList}
use Rattle.leaves.proofs.Listed.{valid_passes, listed_passed}
use Rattle.leaves.proofs.Columns.{columns_valid}
use Rattle.leaves.proofs.Entries.{some_leaf}
use Rattle.leaves.proofs.UniformValid.{uniform_length, uniform_valid}
use Rattle.shares.specs.Shares.{boundaries}
use Rattle.shares.specs.Calls.{weight_fault, shares}
use Rattle.forms.specs.declared.Form.{Form}
use Rattle.forms.proofs.Bounds.{Orderly}
use Rattle.text.specs.Text.{weights}
use Rattle.text.proofs.Sharing.{boundary_first}
use Rattle.orders.specs.Laws.{started, SameShares}

-- no weight is 0
weights_pass : {A : Type 0} (i : ℕ) (vs : List Leaf) (rest : Outcome A) → scan weight_fault i (map (λ (v : Leaf). 1) vs) rest ≡ rest
weights_pass i [] rest = refl
weights_pass i (v ∷ vs) rest = weights_pass (suc i) vs rest

in_range_test : (P : ℕ) → 0 < P → P ≤ 4096 → not (out_of_range P) ≡ true
in_range_test P some few = simp (ne_eqb P 0 (λ none. omega (arith, none)), le-ltb 4096 P few)

module _ (f : Form) (sound : Orderly f) where
  leaf_count : f.leaves ≡ length (started f)
  leaf_count = sound.counted ∙ sym (uniform_length CHILDREN HIGHEST f.roots f.level)

  valid : ValidList CHILDREN HIGHEST f.roots (columns_of (started f))
  valid =
      let covers = uniform_valid CHILDREN HIGHEST f.level (omega arith) sound.shallow f.roots in
      columns_valid CHILDREN HIGHEST f.roots (started f) sound.some_root sound.few_roots
      (some_leaf CHILDREN HIGHEST f.roots (started f) sound.some_root covers) (omega (arith, leaf_count, sound.few_leaves)) covers

  module _ (column : List ℕ) (long : f.shares + 1 ≤ length column) where
    abbrev cut : Outcome (List ℕ)
    cut = room_for (f.shares + 1) (length column) (boundaries f.shares (weights f))

    accepts : shares CHILDREN HIGHEST f.roots f.shares (columns_of (started f)) (weights f) column ≡ accepted (boundaries f.shares (weights f))
    accepts =
        let cs = columns_of (started f) in
        let both = in_range_test f.shares sound.some_share sound.few_shares in
        let fitting : eqb (room cs) (length (weights f)) ≡ true =
        eq-eqb _ _ (length-map (started f) (λ (v : Leaf). v.root) ∙ sym (length-map (started f) (λ (v : Leaf). 1))) in
        ap₂ (λ (x y : Bool). listed CHILDREN HIGHEST f.roots x y cs (scan weight_fault 0 (weights f) cut)) both fitting
        ∙ listed_passed CHILDREN HIGHEST f.roots true true cs (scan weight_fault 0 (weights f) cut) (valid_passes CHILDREN HIGHEST f.roots cs valid)
        ∙ weights_pass 0 (started f) cut
        ∙ simp (le-ltb (length column) (f.shares + 1) long)

  pub form_same_shares : SameShares f
  form_same_shares =
      record {
        leaf_count = leaf_count;
        call_accepts = accepts;
        formula_27 = λ s inside. sym (boundary_first f sound s inside);
      }
