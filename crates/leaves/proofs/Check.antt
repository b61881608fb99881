-- The list check accepts exactly the valid lists: leaf by leaf, its tests are the conditions of a list that covers. Assumes nothing.
use mathlib.Core.Path.{◌≡◌, ap, ap₂, ◌∙◌, sym}
use mathlib.Core.Logic.{◌↔◌}
use mathlib.Core.Bool.{true, not, ◌&&◌, and-eq-true_iff}
use mathlib.Core.List.{List, [], ◌∷◌}
use Prim.Native.Nat.{ℕ, suc, ◌^◌, ◌≤◌, ◌<◌}
use lib.Dec.{leb, ltb, eqb}
use borrow.Author.Tests.{ltb-true, ltb-false, leb-false, eqb-true, not-false, lt-ltb, le-ltb, lt-leb, eq-eqb}
use Rattle.paper.specs.Outcome.{Outcome, accepted, refused, passed}
use Rattle.paper.proofs.Tests.{passed_by, no_fault}
use Rattle.paper.proofs.Scan.{fault_none, never, accepted_of, accepted_by, carry}
use Rattle.leaves.specs.Leaves.{Leaf, Spot, spot_at, begin, start_of, end_of, Covers, Valid}
use Rattle.leaves.specs.Calls.{starts, leaf_fault, walked}

module _ (n L K : ℕ) where
  -- ---- the leaf v may stand where the list has come to c
  abbrev Fits : Spot → Leaf → Type 0
  Fits c v = (v.level ≤ L) × (v.position < n ^ v.level) × (start_of n L v ≡ c) × (v.root < K)

  starts_fits : (c : Spot) (v : Leaf) → starts n L K c v ≡ true → (start_of n L v ≡ c) × (v.root < K)
  starts_fits c v h =
      let a = (and-eq-true_iff (ltb v.root K) (eqb v.root c.root && eqb (begin n L v) c.cell)).0 h in
      let b = (and-eq-true_iff (eqb v.root c.root) (eqb (begin n L v) c.cell)).0 a.1 in
      (ap₂ spot_at (eqb-true v.root c.root b.0) (eqb-true (begin n L v) c.cell b.1), ltb-true v.root K a.0)

  pub faultless_fits : (c : Spot) (v : Leaf) → leaf_fault n L K c v ≡ 0 → Fits c v
  faultless_fits c v h =
      let a = no_fault (ltb L v.level) 0 _ h in
      let b = no_fault (leb (n ^ v.level) v.position) 4 _ a.1 in
      let d = no_fault (not (starts n L K c v)) 11 0 b.1 in
      let s = starts_fits c v (not-false (starts n L K c v) d.0) in
      (ltb-false L v.level a.0, leb-false (n ^ v.level) v.position b.0, s.0, s.1)

  pub fits_faultless : (c : Spot) (v : Leaf) → Fits c v → leaf_fault n L K c v ≡ 0
  fits_faultless c v f =
      simp (
        le-ltb L v.level f.0,
        lt-leb (n ^ v.level) v.position f.1,
        lt-ltb v.root K f.3,
        eq-eqb v.root c.root (ap (λ (p : Spot). p.root) f.2),
        eq-eqb (begin n L v) c.cell (ap (λ (p : Spot). p.cell) f.2),
      )

  -- ---- the walk
  passed_covers : (i : ℕ) (c : Spot) (vs : List Leaf) → walked n L K i c vs passed ≡ passed → Covers n L c vs K
  unfolding walked Covers
  passed_covers i c [] h =
      let a = accepted_by (not (eqb c.root K && eqb c.cell 0)) 12 i passed h in
      let b = (and-eq-true_iff (eqb c.root K) (eqb c.cell 0)).0 (not-false _ a.0) in
      ap₂ spot_at (eqb-true c.root K b.0) (eqb-true c.cell 0 b.1)
  passed_covers i c (v ∷ vs) h =
      let a = accepted_by (not (eqb (leaf_fault n L K c v) 0)) (leaf_fault n L K c v) i (walked n L K (suc i) (end_of n L v) vs passed) h in
      let f = faultless_fits c v (eqb-true (leaf_fault n L K c v) 0 (not-false _ a.0)) in
      (f.0, f.1, f.2, f.3, passed_covers (suc i) (end_of n L v) vs a.1)

  covers_passed : (i : ℕ) (c : Spot) (vs : List Leaf) → Covers n L c vs K → walked n L K i c vs passed ≡ passed
  unfolding walked Covers
  covers_passed i c [] h =
      simp (eq-eqb c.root K (ap (λ (p : Spot). p.root) h), eq-eqb c.cell 0 (ap (λ (p : Spot). p.cell) h))
  covers_passed i c (v ∷ vs) h =
      fault_none (leaf_fault n L K c v) i _ (fits_faultless c v (h.0, h.1, h.2, h.3))
      ∙ covers_passed (suc i) (end_of n L v) vs h.4

  pub exactly_from : (i : ℕ) (c : Spot) (vs : List Leaf) → (walked n L K i c vs passed ≡ passed) ↔ Covers n L c vs K
  exactly_from i c vs = (passed_covers i c vs, covers_passed i c vs)

  pub exactly : (vs : List Leaf) → (walked n L K 0 (spot_at 0 0) vs passed ≡ passed) ↔ Valid n L K vs
  exactly vs = exactly_from 0 (spot_at 0 0) vs

  -- ---- what a walk makes of any rest
  module _ {B : Type 0} (rest : Outcome B) where
    pub walked_passed : (i : ℕ) (c : Spot) (vs : List Leaf) → walked n L K i c vs passed ≡ passed → walked n L K i c vs rest ≡ rest
    unfolding walked
    walked_passed i c [] h = passed_by _ 12 i rest (accepted_by (not (eqb c.root K && eqb c.cell 0)) 12 i passed h).0
    walked_passed i c (v ∷ vs) h =
        let a = accepted_by (not (eqb (leaf_fault n L K c v) 0)) (leaf_fault n L K c v) i (walked n L K (suc i) (end_of n L v) vs passed) h in
        passed_by _ (leaf_fault n L K c v) i _ a.0 ∙ walked_passed (suc i) (end_of n L v) vs a.1

    pub walked_accepted : (i : ℕ) (c : Spot) (vs : List Leaf) (b : B) → walked n L K i c vs rest ≡ accepted b
        → (walked n L K i c vs passed ≡ passed) × (rest ≡ accepted b)
    unfolding walked
    walked_accepted i c [] b h =
        let a = accepted_of (not (eqb c.root K && eqb c.cell 0)) 12 i rest b h in
        (passed_by _ 12 i passed a.0, a.1)
    walked_accepted i c (v ∷ vs) b h =
        let a = accepted_of (not (eqb (leaf_fault n L K c v) 0)) (leaf_fault n L K c v) i (walked n L K (suc i) (end_of n L v) vs rest) b h in
        let later = walked_accepted (suc i) (end_of n L v) vs b a.1 in
        (passed_by _ (leaf_fault n L K c v) i _ a.0 ∙ later.0, later.1)

    pub walked_refused : (i m p : ℕ) (c : Spot) (vs : List Leaf)
        → walked n L K i c vs passed ≡ refused m p → walked n L K i c vs rest ≡ refused m p
    unfolding walked
    walked_refused i m p c [] h =
        carry (not (eqb c.root K && eqb c.cell 0)) 12 i m p passed rest (λ e. never tt m p (sym e)) h
    walked_refused i m p c (v ∷ vs) h =
        carry (not (eqb (leaf_fault n L K c v) 0)) (leaf_fault n L K c v) i m p _ _ (walked_refused (suc i) m p (end_of n L v) vs) h
