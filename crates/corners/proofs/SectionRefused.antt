-- The call over a column of positions refuses by 11 exactly where the columns are not of one length, and by any other number as the single call
-- does, with place 0 but for a 5. Assumes nothing.
use mathlib.Core.Path.{◌≡◌, refl, sym, ap, ◌∙◌, subst⁻¹}
use mathlib.Core.Logic.{⊎_elim}
use mathlib.Core.Bool.{Bool, true, false, not}
use mathlib.Core.List.{List, [], ◌∷◌}
use Prim.Native.Nat.{ℕ, ◌+◌, ◌^◌, ◌≤◌, ◌<◌}
use native.Mathlib.Nat.{zero-add}
use native.Mathlib.Omega.{arith}
use lib.Dec.{lit<, leb, ltb}
use lib.ListN.{get_or}
use borrow.Author.Tests.{ltb-true, ltb-false, leb-true, leb-false}
use Rattle.paper.specs.Outcome.{refused, passed, checks, refuse_when, scan}
use Rattle.paper.proofs.Tests.{refused_by, passed_by}
use Rattle.paper.proofs.Scan.{refused_same, never, other_refused}
use Rattle.paper.proofs.First.{FirstFault, refuses_first}
use Rattle.prism.specs.Points as prisms
use Rattle.tree.specs.Words.{element_at}
use Rattle.tree.proofs.Digits.{power_pos}
use Rattle.prism.specs.Elements.{prism}
use Rattle.positions.specs.Positions.{position_fault}
use Rattle.positions.proofs.Checking.{each_inside}
use Rattle.corners.specs.declared.Root.{Root}
use Rattle.corners.specs.CornerPoints.{root_within, point_at, corner_point}
use Rattle.corners.specs.Section.{PointColumns, equal_lengths, points, corner_points}
use Rattle.corners.specs.SectionLaws.{Equal}
use Rattle.corners.proofs.Call.{point_refused_1, point_refused_5, point_refused_8, point_refused_24}
use Rattle.corners.proofs.Filling.{equal, equal_is}
use Rattle.corners.proofs.SectionCall.{later, onward}
use Rattle.corners.proofs.SectionPlaces.{bad_is}

-- the single call never refuses by 11
single_11 : (l p i : ℕ) (r : Root) → corner_point l p i r ≡ refused 11 0 → ⊥
unfolding corner_point
single_11 l p i r h =
    let level = other_refused (ltb 21 l) 1 0 _ 11 0 (λ e. omega (arith, e)) h in
    let position = other_refused (leb (8 ^ l) p) 5 0 _ 11 0 (λ e. omega (arith, e)) level.1 in
    let number = other_refused (leb 6 i) 8 0 _ 11 0 (λ e. omega (arith, e)) position.1 in
    let root = other_refused (not (root_within r)) 24 0 _ 11 0 (λ e. omega (arith, e)) number.1 in
    never (point_at r (prisms.corner 21 (element_at prism l p) i)) 11 0 (sym root.1)

-- position 0 where there is none
first_below : (l : ℕ) (ps : List ℕ) → checks (position_fault l) ps ≡ passed → get_or ps 0 0 < 8 ^ l
first_below l [] sound = power_pos 8 l (lit< tt)
first_below l (p ∷ ps) sound = each_inside l (p ∷ ps) sound 0 (omega arith)

module _ (l : ℕ) (ps : List ℕ) (i : ℕ) (r : Root) (m : PointColumns) where
  module _ (long : Equal ps m) where
    abbrev same : equal_lengths ps m ≡ true
    same = equal_is ps m long

    -- the refusals that follow the positions' are those of the corner number and of the root
    last_refused : (n k : ℕ) → later l ps i r m same ≡ refused n k → l ≤ 21 → checks (position_fault l) ps ≡ passed
        → (k ≡ 0) × (corner_point l (get_or ps 0 0) i r ≡ refused n 0)
    last_refused n k h shallow sound = by_number (leb 6 i) refl
      where
        below : get_or ps 0 0 < 8 ^ l
        below = first_below l ps sound

        by_root : (t : Bool) → root_within r ≡ t → leb 6 i ≡ false → (k ≡ 0) × (corner_point l (get_or ps 0 0) i r ≡ refused n 0)
        by_root true near few = never (points l ps i r) n k (sym h ∙ simp (few, near))
        by_root false far few =
            let is = refused_same 24 0 n k (sym (simp (few, far)) ∙ h) in
            (sym is.1, point_refused_24 l (get_or ps 0 0) i r shallow below (leb-false 6 i few) far ∙ ap (λ (j : ℕ). refused j 0) is.0)

        by_number : (t : Bool) → leb 6 i ≡ t → (k ≡ 0) × (corner_point l (get_or ps 0 0) i r ≡ refused n 0)
        by_number true large =
            let is = refused_same 8 0 n k (sym (simp large) ∙ h) in
            (sym is.1, point_refused_8 l (get_or ps 0 0) i r shallow below (leb-true 6 i large) ∙ ap (λ (j : ℕ). refused j 0) is.0)
        by_number false few = by_root (root_within r) refl few

    -- as the single call, at the position that the place names
    abbrev AsSingle : ℕ → ℕ → Type 0
    AsSingle n k = (corner_point l (get_or ps k 0) i r ≡ refused n 0) × ((n ≡ 5 → ⊥) → k ≡ 0)

    at_bad : (n k j : ℕ) → l ≤ 21 → k ≡ 0 + j → FirstFault (position_fault l) ps 0 n j → AsSingle n k
    at_bad n k j shallow at f =
        let b = bad_is l ps i r m j n f in
        let bad : 8 ^ l ≤ get_or ps k 0 = subst⁻¹ (λ (p : ℕ). 8 ^ l ≤ get_or ps p 0) (at ∙ zero-add j) b.1.bad in
        (point_refused_5 l (get_or ps k 0) i r shallow bad ∙ ap (λ (number : ℕ). refused number 0) (sym b.0), λ other. absurd (other b.0))

    at_first : (n k : ℕ) → (k ≡ 0) × (corner_point l (get_or ps 0 0) i r ≡ refused n 0) → AsSingle n k
    at_first n k (none, is) = (ap (λ (j : ℕ). corner_point l (get_or ps j 0) i r) none ∙ is, λ other. none)

    pub as_single : (n k : ℕ) → corner_points l ps i r m ≡ refused n k → AsSingle n k
    as_single n k h = by (ltb 21 l) refl (sym (onward l ps i r m same) ∙ h)
      where
        by : (t : Bool) → ltb 21 l ≡ t → refuse_when (ltb 21 l) 1 (scan (position_fault l) 0 ps (later l ps i r m same)) ≡ refused n k → AsSingle n k
        by true deep g =
            let is = refused_same 1 0 n k (sym (refused_by (ltb 21 l) 1 0 _ deep) ∙ g) in
            at_first n k (sym is.1, point_refused_1 l (get_or ps 0 0) i r (ltb-true 21 l deep) ∙ ap (λ (j : ℕ). refused j 0) is.0)
        by false low g =
            let shallow = ltb-false 21 l low in
            ⊎_elim
            (λ found. at_bad n k found.0 shallow found.1.0 found.1.1)
            (λ rest. at_first n k (last_refused n k rest.1 shallow rest.0))
            (refuses_first (position_fault l) 0 (later l ps i r m same) 0 n k ps (sym (passed_by (ltb 21 l) 1 0 _ low) ∙ g))

  -- ---- columns of different lengths
  alone : equal_lengths ps m ≡ false → corner_points l ps i r m ≡ refused 11 0
  unfolding corner_points
  alone other = simp other

  pub unequal_there : (k : ℕ) → corner_points l ps i r m ≡ refused 11 k → (Equal ps m → ⊥) × (k ≡ 0)
  unequal_there k h = (λ long. single_11 l (get_or ps k 0) i r (as_single long 11 k h).0, by (equal_lengths ps m) refl)
    where
      by : (t : Bool) → equal_lengths ps m ≡ t → k ≡ 0
      by true long = absurd (single_11 l (get_or ps k 0) i r (as_single (equal ps m long) 11 k h).0)
      by false other = sym (refused_same 11 0 11 k (sym (alone other) ∙ h)).1

  pub unequal_back : (k : ℕ) → (Equal ps m → ⊥) × (k ≡ 0) → corner_points l ps i r m ≡ refused 11 k
  unequal_back k (other, none) = by (equal_lengths ps m) refl ∙ ap (refused 11) (sym none)
    where
      by : (t : Bool) → equal_lengths ps m ≡ t → corner_points l ps i r m ≡ refused 11 0
      by true long = absurd (other (equal ps m long))
      by false is = alone is
