-- The call over a column of positions refuses by 5 exactly at the first bad index, whatever follows. Assumes nothing.
use mathlib.Core.Path.{◌≡◌, refl, sym, ap, ◌∙◌, subst⁻¹}
use mathlib.Core.Logic.{⊎_elim}
use mathlib.Core.Bool.{Bool, true, false, not}
use mathlib.Core.List.{List}
use Prim.Native.Nat.{ℕ, ◌^◌, ◌≤◌}
use native.Mathlib.Nat.{zero-add}
use native.Mathlib.Omega.{arith}
use lib.Dec.{leb, ltb}
use lib.ListN.{get_or}
use borrow.Author.Tests.{ltb-false, le-ltb, lt-leb, le-leb, leb-true, leb-false, not-false}
use Rattle.paper.specs.Outcome.{refused}
use Rattle.paper.proofs.Tests.{no_fault, passed_by}
use Rattle.paper.proofs.Scan.{never, other_refused}
use Rattle.paper.proofs.First.{FirstFault, first_refuses, refuses_first}
use Rattle.positions.specs.Positions.{position_fault}
use Rattle.corners.specs.declared.Root.{Root}
use Rattle.corners.specs.CornerPoints.{root_within}
use Rattle.corners.specs.Section.{PointColumns, equal_lengths, points, corner_points}
use Rattle.corners.specs.SectionLaws.{Equal, FirstBad}
use Rattle.corners.proofs.Filling.{equal}
use Rattle.corners.proofs.SectionCall.{later, onward}
use Rattle.corners.proofs.Filling.{equal_is}

module _ (l : ℕ) (ps : List ℕ) (i : ℕ) (r : Root) (m : PointColumns) where
  pub bad_is : (k n : ℕ) → FirstFault (position_fault l) ps 0 n k → (n ≡ 5) × FirstBad l ps k
  bad_is k n f = by (leb (8 ^ l) (get_or ps k 0)) refl
    where
      by : (t : Bool) → leb (8 ^ l) (get_or ps k 0) ≡ t → (n ≡ 5) × FirstBad l ps k
      by true beyond = (
        sym f.is ∙ simp beyond,
        record {
          index = f.below;
          bad = leb-true (8 ^ l) (get_or ps k 0) beyond;
          good_before = λ j less. leb-false (8 ^ l) (get_or ps j 0) (no_fault (leb (8 ^ l) (get_or ps j 0)) 4 0 (f.before j less)).0;
        },
      )
      by false within = absurd (f.some (sym f.is ∙ simp within))

  first_is : (k : ℕ) → FirstBad l ps k → FirstFault (position_fault l) ps 0 5 k
  first_is k b =
      record {
        below = b.index;
        is = simp (le-leb (8 ^ l) (get_or ps k 0) b.bad);
        some = λ none. omega (arith, none);
        before = λ j less. simp (lt-leb (8 ^ l) (get_or ps j 0) (b.good_before j less));
      }

  pub place_back : Equal ps m → (k : ℕ) → l ≤ 21 → FirstBad l ps k → corner_points l ps i r m ≡ refused 5 k
  place_back long k shallow b =
      let same = equal_is ps m long in
      onward l ps i r m same
      ∙ passed_by (ltb 21 l) 1 0 _ (le-ltb 21 l shallow)
      ∙ first_refuses (position_fault l) 0 (later l ps i r m same) 0 k 5 ps (first_is k b)
      ∙ ap (refused 5) (zero-add k)

  pub place_there : (k : ℕ) → corner_points l ps i r m ≡ refused 5 k → Equal ps m × ((l ≤ 21) × FirstBad l ps k)
  unfolding corner_points
  place_there k h =
      let columns = other_refused (not (equal_lengths ps m)) 11 0 _ 5 k (λ e. omega (arith, e)) h in
      let level = other_refused (ltb 21 l) 1 0 _ 5 k (λ e. omega (arith, e)) columns.1 in
      let first : FirstBad l ps k =
      ⊎_elim
      (λ found. subst⁻¹ (FirstBad l ps) (found.1.0 ∙ zero-add found.0) (bad_is found.0 5 found.1.1).1)
      (λ rest.
      let number = other_refused (leb 6 i) 8 0 _ 5 k (λ e. omega (arith, e)) rest.1 in
      let root = other_refused (not (root_within r)) 24 0 _ 5 k (λ e. omega (arith, e)) number.1 in
      never (points l ps i r) 5 k (sym root.1))
      (refuses_first (position_fault l) 0 _ 0 5 k ps level.1) in
      (equal ps m (not-false _ columns.0), (ltb-false 21 l level.0, first))
