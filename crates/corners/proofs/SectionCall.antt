-- The ways out of the call over a column of positions, in the ticket's order, each from the tests that led there. Assumes nothing.
use mathlib.Core.Path.{◌≡◌, refl, ap, ◌∙◌, sym}
use mathlib.Core.Bool.{Bool, true, false, not}
use mathlib.Core.List.{List, [], ◌∷◌}
use Prim.Native.Nat.{ℕ, suc, ◌≤◌}
use lib.Dec.{leb, ltb, eqb}
use borrow.Author.Tests.{le-ltb, lt-leb, ltb-false}
use Rattle.std.specs.declared.result.Result.TheVariants.{Ok, Err}
use Rattle.paper.specs.Outcome.{Outcome, accepted, refused, passed, checks, refuse_when_at, refuse_when, scan, and_then}
use Rattle.paper.specs.Refusals.{outcome_of, number_of, place_of}
use Rattle.paper.specs.declared.Refusal.{Refusal}
use Rattle.paper.proofs.Scan.{accepted_by, scan_passed}
use Rattle.paper.proofs.Memory.{refuses, accepts}
use Rattle.positions.specs.Positions.{position_fault, check_positions}
use Rattle.corners.specs.declared.Root.{Root}
use Rattle.corners.specs.declared.Point.{Point}
use Rattle.corners.specs.CornerPoints.{root_within}
use Rattle.corners.specs.Section.{PointColumns, equal_lengths, points, corner_points, filled, SectionFilled}
use Rattle.corners.specs.Inner.{check_corner, Tested}
use Rattle.corners.proofs.Call.{checked}
use Rattle.corners.proofs.Filling.{equal_is}
use Rattle.corners.proofs.Filling as filling

-- what follows a test or a scan follows where it passes
after_test : {A : Type 0} (t : Bool) (n p : ℕ) (short : Outcome (Unit {0})) (long rest : Outcome A) → long ≡ and_then short (λ u. rest)
    → refuse_when_at t n p long ≡ and_then (refuse_when_at t n p short) (λ u. rest)
after_test true n p short long rest h = refl
after_test false n p short long rest h = h

after_scan : {A B : Type 0} (fault : A → ℕ) (i : ℕ) (es : List A) (rest : Outcome B) → scan fault i es rest ≡ and_then (scan fault i es passed) (λ u. rest)
after_scan fault i [] rest = refl
after_scan fault i (e ∷ es) rest = after_test (not (eqb (fault e) 0)) (fault e) i _ _ rest (after_scan fault (suc i) es rest)

-- the level and the positions have passed
pub each_passed : (l : ℕ) (ps : List ℕ) → passed ≡ check_positions l ps → (l ≤ 21) × (checks (position_fault l) ps ≡ passed)
each_passed l ps h =
    let both = accepted_by (ltb 21 l) 1 0 (checks (position_fault l) ps) (sym h) in
    (ltb-false 21 l both.0, both.1)

module _ (l : ℕ) (ps : List ℕ) (i : ℕ) (r : Root) (m : PointColumns) where
  -- a refusal that the call is due
  pub section_refused : (x : Refusal) → refused (number_of x) (place_of x) ≡ corner_points l ps i r m → SectionFilled l ps i r (Err x) m m
  section_refused x is = refuses outcome_of (λ (found : List Point). tt) filled _ _ m (number_of x) (place_of x) (sym is) refl

  pub section_11 : equal_lengths ps m ≡ false → refused 11 0 ≡ corner_points l ps i r m
  unfolding corner_points
  section_11 unequal = sym (simp unequal)

  module _ (equal : equal_lengths ps m ≡ true) where
    -- the tests that follow, once columns and positions have passed
    abbrev pub later : Outcome (List Point)
    later = refuse_when (leb 6 i) 8 (refuse_when (not (root_within r)) 24 (accepted (points l ps i r)))

    pub onward : corner_points l ps i r m ≡ refuse_when (ltb 21 l) 1 (scan (position_fault l) 0 ps later)
    unfolding corner_points
    onward = simp equal

    -- the call in its steps
    last : later ≡ and_then (check_corner i r) (λ u. accepted (points l ps i r))
    last = after_test (leb 6 i) 8 0 _ _ _ (after_test (not (root_within r)) 24 0 passed _ _ refl)

    steps : and_then (check_positions l ps) (λ u. later) ≡ corner_points l ps i r m
    steps = sym (onward ∙ after_test (ltb 21 l) 1 0 _ _ later (after_scan (position_fault l) 0 ps later))

    pub at_positions : (n k : ℕ) → refused n k ≡ check_positions l ps → refused n k ≡ corner_points l ps i r m
    at_positions n k h = ap (λ o. and_then o (λ u. later)) h ∙ steps

    pub at_corner : (n k : ℕ) → passed ≡ check_positions l ps → refused n k ≡ check_corner i r → refused n k ≡ corner_points l ps i r m
    at_corner n k fine h =
        ap (λ o. and_then o (λ u. accepted (points l ps i r))) h ∙ sym last ∙ ap (λ o. and_then o (λ u. later)) fine ∙ steps

  -- where the tests pass, the points
  pub section_accepted : Tested l ps i r m → corner_points l ps i r m ≡ accepted (points l ps i r)
  section_accepted t =
      let long = equal_is ps m t.equal in
      let positions : refuse_when (ltb 21 l) 1 (scan (position_fault l) 0 ps (later long)) ≡ later long =
      simp (le-ltb 21 l t.shallow) (scan_passed (position_fault l) 0 ps (later long) t.inside) in
      onward long ∙ positions ∙ simp (lt-leb 6 i t.numbered, t.near)

  pub section_done : Tested l ps i r m → (m' : PointColumns) → m' ≡ filled (points l ps i r) m → SectionFilled l ps i r (Ok tt) m m'
  section_done t m' is =
      accepts outcome_of (λ (found : List Point). tt) filled _ _ m (points l ps i r) m' (section_accepted t) refl is

-- the tests of a section have passed
pub tested : (l : ℕ) (ps : List ℕ) (i : ℕ) (r : Root) (m : PointColumns)
    → equal_lengths ps m ≡ true → passed ≡ check_positions l ps → passed ≡ check_corner i r → Tested l ps i r m
tested l ps i r m equal fine last =
    let each = each_passed l ps fine in
    let both = checked i r last in
    record { equal = filling.equal ps m equal; shallow = each.0; inside = each.1; numbered = both.0; near = both.1 }
