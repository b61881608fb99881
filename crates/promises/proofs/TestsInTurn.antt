-- One test after the other, and what each says: an outcome is accepted exactly when all of them pass. Assumes nothing.
use mathlib.Core.Path.{◌≡◌, refl, ap, ap₂, ◌∙◌, sym}
use mathlib.Core.Logic.{◌↔◌}
use mathlib.Core.Bool.{Bool, true, false, not, and-eq-true_iff}
use mathlib.Core.List.{List}
use Prim.Native.Nat.{ℕ, ◌≤◌, ◌<◌}
use native.Mathlib.Omega.{arith}
use lib.Dec.{ltb, eqb}
use lib.ListN.{length}
use borrow.Author.Tests.{ltb-false, le-ltb, eqb-true, eq-eqb, ne_eqb, not-true, not-false}
use Rattle.paper.specs.Outcome.{Outcome, accepted, passed, refuse_when_at, scan}
use Rattle.paper.specs.Memory.{room_for}
use Rattle.paper.proofs.Tests.{passed_by}
use Rattle.paper.proofs.Scan.{accepted_of, scan_accepted, scan_passed}
use Rattle.leaves.specs.Leaves.{Columns, equal_columns}
use Rattle.leaves.specs.Calls.{most, out_of_range, listed}
use Rattle.leaves.specs.Laws.{ValidList}
use Rattle.leaves.proofs.Listed.{in_range_lem, columns_sound, listed_passed, listed_accepted, listed_fits, valid_passes}
use Rattle.marks.specs.Marks.{marked}
use Rattle.marks.proofs.Marked.{marked_passed, marked_accepted}
use Rattle.shares.specs.Calls.{weight_fault}
use Rattle.shares.specs.Laws.{Weighty}
use Rattle.shares.proofs.Weights.{weights_exactly}
use Rattle.promises.specs.Accepts.{Lent}

-- ---- what the tests say
pub in_range_is : (k : ℕ) → out_of_range k ≡ false ↔ ((0 < k) × (k ≤ most))
in_range_is k = (in_range_lem k, λ (h : (0 < k) × (k ≤ most)). simp (ne_eqb k 0 (λ none. omega arith), le-ltb most k h.1))

pub at_most : (top k : ℕ) → ltb top k ≡ false ↔ (k ≤ top)
at_most top k = (ltb-false top k, le-ltb top k)

pub lent_is : (m : Columns) → equal_columns m ≡ true ↔ Lent m
lent_is m = (there, back)
  where
    there : equal_columns m ≡ true → Lent m
    there h =
        let both = (and-eq-true_iff (eqb (length m.roots) (length m.levels)) (eqb (length m.roots) (length m.positions))).0 h in
        record { levels_long = eqb-true _ _ both.0; positions_long = eqb-true _ _ both.1 }

    back : Lent m → equal_columns m ≡ true
    back h = simp (eq-eqb (length m.roots) (length m.levels) h.levels_long, eq-eqb (length m.roots) (length m.positions) h.positions_long)

pub not_is : (t : Bool) {P : Type 0} → (t ≡ true ↔ P) → not t ≡ false ↔ P
not_is t test = ((λ h. test.0 (not-false t h)), λ p. ap not (test.1 p))

pub range_of : (P : ℕ) → not (out_of_range P) ≡ true ↔ ((0 < P) × (P ≤ most))
range_of P = ((λ h. (in_range_is P).0 (not-true (out_of_range P) h)), λ h. ap not ((in_range_is P).1 h))

pub equal_is : (k m : ℕ) → eqb k m ≡ true ↔ (m ≡ k)
equal_is k m = ((λ h. sym (eqb-true k m h)), λ h. eq-eqb k m (sym h))

pub always : true ≡ true ↔ Unit {0}
always = ((λ h. tt), λ u. refl)

-- ---- one test after the other; what they say, each with all that follows
module _ {A : Type 0} {a : A} where
  pub after : (t : Bool) (number place : ℕ) {rest : Outcome A} {P Q : Type 0} → (t ≡ false ↔ P) → (rest ≡ accepted a ↔ Q)
      → refuse_when_at t number place rest ≡ accepted a ↔ (P × Q)
  after t number place {rest} {P} {Q} test later = (
    (λ h. let d = accepted_of t number place rest a h in (test.0 d.0, later.0 d.1)),
    λ (h : P × Q). passed_by t number place rest (test.1 h.0) ∙ later.1 h.1,
  )

  pub enough_room : (needed there : ℕ) (b : A) → room_for needed there b ≡ accepted a ↔ ((needed ≤ there) × (a ≡ b))
  enough_room needed there b = after (ltb there needed) 14 needed (at_most there needed) ((λ h. cc), λ h. cc)

  module _ (K : ℕ) (in_range fitting : Bool) (cs : Columns) {rest : Outcome A} {P Q R : Type 0} where
    pub after_list : (in_range ≡ true ↔ P) → (fitting ≡ true ↔ Q) → (rest ≡ accepted a ↔ R)
        → listed 8 21 K in_range fitting cs rest ≡ accepted a ↔ (ValidList 8 21 K cs × (P × (Q × R)))
    after_list range fits later = (there, back)
      where
        there : listed 8 21 K in_range fitting cs rest ≡ accepted a → ValidList 8 21 K cs × (P × (Q × R))
        there h =
            let inside = listed_accepted 8 21 K in_range fitting cs rest a h in
            let both = listed_fits 8 21 K in_range fitting cs rest a h in
            (columns_sound 8 21 K in_range fitting cs inside.0, (range.0 both.0, (fits.0 both.1, later.0 inside.1)))

        back : ValidList 8 21 K cs × (P × (Q × R)) → listed 8 21 K in_range fitting cs rest ≡ accepted a
        back (list, (p, (q, r))) =
            ap₂ (λ (x y : Bool). listed 8 21 K x y cs rest) (range.1 p) (fits.1 q)
            ∙ listed_passed 8 21 K true true cs rest (valid_passes 8 21 K cs list) ∙ later.1 r

  pub after_weights : (ws : List ℕ) {rest : Outcome A} {Q : Type 0} → (rest ≡ accepted a ↔ Q) → scan weight_fault 0 ws rest ≡ accepted a ↔ (Weighty ws × Q)
  after_weights ws {rest} {Q} later = (
    (λ h. let both = scan_accepted weight_fault 0 ws rest a h in ((weights_exactly ws).0 both.0, later.0 both.1)),
    (λ (h : Weighty ws × Q). scan_passed weight_fault 0 ws rest ((weights_exactly ws).1 h.0) ∙ later.1 h.1),
  )

  pub after_marks : (ls ms : List ℕ) {rest : Outcome A} {Q : Type 0} → (rest ≡ accepted a ↔ Q)
      → marked 21 ls ms rest ≡ accepted a ↔ ((marked 21 ls ms passed ≡ passed) × Q)
  after_marks ls ms {rest} {Q} later = (
    (λ h. let both = marked_accepted 21 ls ms rest a h in (both.0, later.0 both.1)),
    (λ (h : (marked 21 ls ms passed ≡ passed) × Q). marked_passed 21 ls ms rest h.0 ∙ later.1 h.1),
  )
