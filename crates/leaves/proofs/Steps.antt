-- One leaf of the list check, by how many elements its level has: it has no fault where the code's tests have passed, and it ends that many
-- smallest cells after the spot where it starts. Assumes nothing.
use Rattle.std.proofs.Common.{◌≡◌, ℕ, ◌+◌, ◌-◌, ◌*◌, ◌^◌, ◌≤◌, ◌<◌, Bool, true, false, not, eqb, List, refl, ap, sym, ◌∙◌, arith}
use mathlib.Core.Path.{ap₂}
use borrow.Author.Tests.{eqb-true, not-false}
use Rattle.paper.specs.Outcome.{Outcome, accepted, refused, refuse_when_at, rows}
use Rattle.paper.proofs.Tests.{refused_by}
use Rattle.paper.proofs.Scan.{never, accepted_of, accepted_same, rows_next}
use Rattle.leaves.specs.Leaves.{Leaf, Spot, spot_at, span, past, start_of, end_of}
use Rattle.leaves.specs.Calls.{leaf_fault, walked}
use Rattle.leaves.proofs.Span.{fill, past_begin, past_le, end_last, end_within}
use Rattle.leaves.proofs.Check.{faultless_fits, fits_faultless}
use Rattle.leaves.proofs.Turns.{walk_next}

-- a test that refused held
refused_of : {A : Type 0} (t : Bool) (n p m q : ℕ) (a : A) → refuse_when_at t n p (accepted a) ≡ refused m q → (t ≡ true) × (n ≡ m) × (p ≡ q)
refused_of true n p m q a h = (refl, cc, cc)
refused_of false n p m q a h = never a m q (sym h)

module _ (n L K : ℕ) (c : Spot) (v : Leaf) (count cells : ℕ) (level : v.level ≤ L) (all : count ≡ n ^ v.level) (each : cells ≡ span n L v.level) where
  -- all elements of a level together
  pub product_is : count * cells ≡ n ^ L
  product_is = ap₂ (λ (x y : ℕ). x * y) all each ∙ fill n L v.level level

  module _ (below : v.position < count) (inside : v.root < K) (same : v.root ≡ c.root) (from : v.position * cells ≡ c.cell) where
    pub faultless : leaf_fault n L K c v ≡ 0
    faultless =
        fits_faultless n L K c v (level, rw (← all) below, ap₂ spot_at same (ap (λ (m : ℕ). v.position * m) (sym each) ∙ from), inside)

-- ---- the walk, one leaf further
module _ (n L K : ℕ) {A : Type 0} (rest : Outcome A) (entry : ℕ → Leaf) (m i : ℕ) (c : Spot) (v : Leaf) (is : v ≡ entry i) (inside : i < m) where
  abbrev fault : ℕ
  fault = leaf_fault n L K c v

  -- what `over` answers
  abbrev answer : Outcome ℕ
  answer = refuse_when_at (not (eqb fault 0)) fault i (accepted (span n L v.level))

  pub walk_out : (number place : ℕ) → refused number place ≡ answer → walked n L K i c (rows entry i (m - i)) rest ≡ refused number place
  unfolding walked
  walk_out number place h =
      let a = refused_of (not (eqb fault 0)) fault i number place (span n L v.level) (sym h) in
      ap (λ (vs : List Leaf). walked n L K i c vs rest) (rows_next entry m i inside)
      ∙ rw (← is) (refused_by (not (eqb fault 0)) fault i _ a.0)
      ∙ ap₂ refused a.1 a.2

  module _ (cells : ℕ) (h : accepted cells ≡ answer) where
    parts : (not (eqb fault 0) ≡ false) × (accepted (span n L v.level) ≡ accepted cells)
    parts = accepted_of (not (eqb fault 0)) fault i (accepted (span n L v.level)) cells (sym h)

    none : fault ≡ 0
    none = eqb-true fault 0 (not-false (eqb fault 0) parts.0)

    fits : (v.level ≤ L) × (v.position < n ^ v.level) × (start_of n L v ≡ c) × (v.root < K)
    fits = faultless_fits n L K c v none

    ends : past n L v ≡ c.cell + cells
    ends =
        past_begin n L v ∙ ap₂ (λ (a b : ℕ). a + b) (ap (λ (p : Spot). p.cell) fits.2) (accepted_same (span n L v.level) cells parts.1)

    pub ends_le : c.cell + cells ≤ n ^ L
    ends_le = omega (arith, ends, past_le n L v fits.0 fits.1)

    to : (d : Spot) → end_of n L v ≡ d → walked n L K i c (rows entry i (m - i)) rest ≡ walked n L K (i + 1) d (rows entry (i + 1) (m - (i + 1))) rest
    to d e =
        walk_next n L K rest entry m i c inside (ap (leaf_fault n L K c) (sym is) ∙ none)
        ∙ ap (λ (p : Spot). walked n L K (i + 1) p (rows entry (i + 1) (m - (i + 1))) rest) (ap (end_of n L) (sym is) ∙ e)

    pub walk_last : c.cell + cells ≡ n ^ L
        → walked n L K i c (rows entry i (m - i)) rest ≡ walked n L K (i + 1) (spot_at (c.root + 1) 0) (rows entry (i + 1) (m - (i + 1))) rest
    walk_last last = to _ (end_last n L v (ends ∙ last) ∙ ap (λ (p : Spot). spot_at (p.root + 1) 0) fits.2)

    pub walk_within : (c.cell + cells ≡ n ^ L → ⊥)
        → walked n L K i c (rows entry i (m - i)) rest
        ≡ walked n L K (i + 1) (spot_at c.root (c.cell + cells)) (rows entry (i + 1) (m - (i + 1))) rest
    walk_within within =
        to _ (end_within n L v (λ e. within (sym ends ∙ e)) ∙ ap₂ spot_at (ap (λ (p : Spot). p.root) fits.2) ends)
