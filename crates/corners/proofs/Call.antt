-- The ways out of the call, one law a case, in the paper's order, each from the tests that led there; and what the element is that an accepted call asks for.
-- Assumes nothing.
use mathlib.Core.Path.{◌≡◌, refl, sym, ap, ◌∙◌, subst}
use mathlib.Core.Bool.{Bool, true, false, not}
use Prim.Native.Nat.{ℕ, ◌^◌, ◌≤◌, ◌<◌}
use borrow.Author.Tests.{lt-ltb, le-ltb, lt-leb, le-leb, ltb-false, leb-false, not-false}
use lib.Dec.{leb, ltb}
use Rattle.paper.specs.Outcome.{accepted, refused, passed, refuse_when, and_then}
use Rattle.std.specs.declared.result.Result.{Result}
use Rattle.std.specs.declared.result.Result.TheVariants.{Err}
use Rattle.paper.specs.declared.Refusal.{Refusal}
use Rattle.paper.specs.Refusals.{number_of, place_of, outcome_of}
use Rattle.paper.proofs.Scan.{never, accepted_same, accepted_of, accepted_by}
use Rattle.tree.proofs.Call.{at_accepted}
use Rattle.tree.specs.Laws.{Sound}
use Rattle.tree.specs.Words.{element_at}
use Rattle.tree.specs.Calls
use Rattle.tree.proofs.RoundTrip.{at_sound}
use Rattle.prism.specs.declared.Prism.{Prism}
use Rattle.prism.specs.Elements.{prism, prism_to}
use Rattle.prism.specs.Points as prisms
use Rattle.prism.specs.Lawful.{lawful}
use Rattle.corners.specs.declared.Root.{Root}
use Rattle.corners.specs.CornerPoints.{root_within, point_at, corner_point}
use Rattle.corners.specs.Inner.{check_corner}

module _ (l p i : ℕ) (r : Root) where
  pub point_refused_1 : 21 < l → corner_point l p i r ≡ refused 1 0
  unfolding corner_point
  point_refused_1 deep = simp (lt-ltb 21 l deep)

  pub point_refused_5 : l ≤ 21 → 8 ^ l ≤ p → corner_point l p i r ≡ refused 5 0
  unfolding corner_point
  point_refused_5 shallow beyond = simp (le-ltb 21 l shallow, le-leb (8 ^ l) p beyond)

  module _ (shallow : l ≤ 21) (below : p < 8 ^ l) where
    pub point_refused_8 : 6 ≤ i → corner_point l p i r ≡ refused 8 0
    unfolding corner_point
    point_refused_8 large = simp (le-ltb 21 l shallow, lt-leb (8 ^ l) p below, le-leb 6 i large)

    pub point_refused_24 : i < 6 → root_within r ≡ false → corner_point l p i r ≡ refused 24 0
    unfolding corner_point
    point_refused_24 small out = simp (le-ltb 21 l shallow, lt-leb (8 ^ l) p below, lt-leb 6 i small, out)

    pub point_accepted : i < 6 → root_within r ≡ true → corner_point l p i r ≡ accepted (point_at r (prisms.corner 21 (element_at prism l p) i))
    unfolding corner_point
    point_accepted small inside = simp (le-ltb 21 l shallow, lt-leb (8 ^ l) p below, lt-leb 6 i small, inside)

-- ---- the call in its steps: the element, the last tests, the point
pub onward : (l p i : ℕ) (r : Root)
    → corner_point l p i r ≡ and_then (Calls.at prism l p) (λ e. and_then (check_corner i r) (λ u. accepted (point_at r (prisms.corner 21 e i))))
unfolding corner_point prism_to
onward l p i r = by (ltb 21 l) (leb (8 ^ l) p) (leb 6 i) (not (root_within r))
  where
    at : Prism
    at = element_at prism l p

    by : (a b c d : Bool)
        → refuse_when a 1 (refuse_when b 5 (refuse_when c 8 (refuse_when d 24 (accepted (point_at r (prisms.corner 21 at i))))))
        ≡ and_then (refuse_when a 1 (refuse_when b 5 (accepted at))) (λ e. and_then (refuse_when c 8 (refuse_when d 24 passed)) (λ u. accepted (point_at r (prisms.corner 21 e i))))
    by true b c d = refl
    by false true c d = refl
    by false false true d = refl
    by false false false true = refl
    by false false false false = refl

module _ (l p i : ℕ) (r : Root) where
  pub at_position : (n k : ℕ) → refused n k ≡ Calls.at prism l p → refused n k ≡ corner_point l p i r
  at_position n k h = ap (λ o. and_then o (λ e. and_then (check_corner i r) (λ u. accepted (point_at r (prisms.corner 21 e i))))) h ∙ sym (onward l p i r)

  module _ (e : Prism) (found : accepted e ≡ Calls.at prism l p) where
    at_element : and_then (check_corner i r) (λ u. accepted (point_at r (prisms.corner 21 e i))) ≡ corner_point l p i r
    at_element = ap (λ o. and_then o (λ a. and_then (check_corner i r) (λ u. accepted (point_at r (prisms.corner 21 a i))))) found ∙ sym (onward l p i r)

    pub at_corner : (n k : ℕ) → refused n k ≡ check_corner i r → refused n k ≡ corner_point l p i r
    at_corner n k h = ap (λ o. and_then o (λ u. accepted (point_at r (prisms.corner 21 e i)))) h ∙ at_element

    pub at_point : passed ≡ check_corner i r → accepted (point_at r (prisms.corner 21 e i)) ≡ corner_point l p i r
    at_point h = ap (λ o. and_then o (λ u. accepted (point_at r (prisms.corner 21 e i)))) h ∙ at_element

-- what the last tests have shown
pub checked : (i : ℕ) (r : Root) → passed ≡ check_corner i r → (i < 6) × (root_within r ≡ true)
checked i r h =
    let number = accepted_by (leb 6 i) 8 0 _ (sym h) in
    let root = accepted_by (not (root_within r)) 24 0 _ number.1 in
    (leb-false 6 i number.0, not-false _ root.0)

-- ---- the element at the position
pub element_sound : (l p : ℕ) → l ≤ 21 → p < 8 ^ l → Sound prism (element_at prism l p)
unfolding prism_to
element_sound l p shallow below = at_sound prism (lawful 21) l p shallow below

pub found_sound : (l p : ℕ) (e : Prism) → accepted e ≡ Calls.at prism l p → Sound prism e
unfolding prism_to
found_sound l p e h =
    let level = accepted_of (ltb 21 l) 1 0 _ e (sym h) in
    let position = accepted_of (leb (8 ^ l) p) 5 0 _ e level.1 in
    subst (Sound prism) (accepted_same _ _ position.1) (element_sound l p (ltb-false 21 l level.0) (leb-false (8 ^ l) p position.0))

-- where the level has the position, the public call cannot refuse
pub element_never : (l p : ℕ) → l ≤ 21 → p < 8 ^ l → {A : Type 0} (a : Result Prism Refusal) (r : Refusal) → a ≡ Err r → outcome_of a ≡ Calls.at prism l p → A
unfolding prism_to
element_never l p shallow below a r taken found =
    never _ (number_of r) (place_of r) (sym (ap outcome_of taken) ∙ found ∙ at_accepted prism l p shallow below)
