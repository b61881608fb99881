-- What is promised of corner points, put together from the laws on the f64, on the bound and on the root's own corners. Assumes nothing.
use mathlib.Core.Path.{◌≡◌, refl, sym, ap, ◌∙◌, subst}
use mathlib.Core.Bool.{Bool, true, false, not}
use Prim.Native.Nat.{ℕ, zero, suc, ◌^◌, ◌≤◌, ◌<◌}
use native.Mathlib.Omega.{arith}
use lib.Dec.{lit<, lit≤, ltb, leb}
use borrow.Author.Tests.{ltb-false, leb-false, not-false}
use lib.IntN.{ℤ, pos, ◌*ℤ◌}
use Rattle.paper.specs.Outcome.{accepted}
use Rattle.paper.proofs.Scan.{accepted_same, accepted_of}
use Rattle.tree.proofs.RoundTrip.{at_sound}
use Rattle.prism.specs.Lawful.{lawful}
use Rattle.prism.proofs.Inside.{corner_in_root}
use Rattle.tree.specs.Words.{element_at}
use Rattle.prism.specs.Elements.{prism, prism_to}
use Rattle.prism.specs.Points as prisms
use Rattle.corners.specs.declared.Corner.{Corner}
use Rattle.corners.specs.declared.Root.{Root}
use Rattle.corners.specs.declared.Point.{Point}
use Rattle.corners.specs.CornerPoints.{corner, root_within, q, coordinate, point_at, corner_point}
use Rattle.corners.specs.Laws.{Answers, Exact, Promised, Small, AsDue, pointed}
use Rattle.corners.proofs.Offsets.{axis_bound}
use Rattle.corners.proofs.Roots.{axis, near_axis, in_x, in_y, in_z}
use Rattle.corners.proofs.Call.{point_accepted, point_refused_24}
use Rattle.corners.proofs.RootCorners.{at_0, at_1, at_2, at_3, at_4, at_5, whole}
use Rattle.corners.proofs.SectionAccepted.{accepts_there, accepts_back}
use Rattle.corners.proofs.SectionPlaces.{place_there, place_back}
use Rattle.corners.proofs.SectionRefused.{as_single, unequal_there, unequal_back}
use Rattle.corners.proofs.Exact as values

exact : Exact
exact =
    record {
      is = λ z small. record { double = values.coordinate_fits z; value = values.exact z small };
      only = λ z x small h.
          values.unique x (coordinate z) _ _ (2 ^ 42) (lit< tt) h.double (values.coordinate_fits z) h.value (values.exact z small);
    }

small : (r : Root) (c : prisms.Corner) → root_within r ≡ true → prisms.InRoot 21 c → Small r c
small r c near inside =
    record {
      in_x = axis_bound (axis (λ v. v.x) r) c (near_axis _ in_x r near) inside;
      in_y = axis_bound (axis (λ v. v.y) r) c (near_axis _ in_y r near) inside;
      in_z = axis_bound (axis (λ v. v.z) r) c (near_axis _ in_z r near) inside;
    }

-- ---- an answer is as due
module _ (l p i : ℕ) (r : Root) (a : Point) (shallow : l ≤ 21) (below : p < 8 ^ l) (six : i < 6) (near : root_within r ≡ true) where
  abbrev place : prisms.Corner
  place = prisms.corner 21 (element_at prism l p) i

  bound : Small r place
  unfolding prism_to
  bound = small r place near (corner_in_root 21 (element_at prism l p) i (at_sound prism (lawful 21) l p shallow below) six)

  due : corner_point l p i r ≡ accepted a → AsDue r place a
  due h =
      subst (AsDue r place) (accepted_same (point_at r place) a (sym (point_accepted l p i r shallow below six near) ∙ h))
      (record { x_is = exact.is _ bound.in_x; y_is = exact.is _ bound.in_y; z_is = exact.is _ bound.in_z })

  only_due : AsDue r place a → corner_point l p i r ≡ accepted a
  only_due h =
      point_accepted l p i r shallow below six near
      ∙ λ k. accepted (record {
        x = sym (exact.only _ a.x bound.in_x h.x_is) k;
        y = sym (exact.only _ a.y bound.in_y h.y_is) k;
        z = sym (exact.only _ a.z bound.in_z h.z_is) k;
      })

answers : (l p i : ℕ) (r : Root) (a : Point) → corner_point l p i r ≡ accepted a → Answers l p i r a
unfolding corner_point
answers l p i r a h =
    let level = accepted_of (ltb 21 l) 1 0 _ a h in
    let position = accepted_of (leb (8 ^ l) p) 5 0 _ a level.1 in
    let number = accepted_of (leb 6 i) 8 0 _ a position.1 in
    let root = accepted_of (not (root_within r)) 24 0 _ a number.1 in
    let shallow = ltb-false 21 l level.0 in
    let inside = leb-false (8 ^ l) p position.0 in
    let six = leb-false 6 i number.0 in
    let near = not-false (root_within r) root.0 in
    record { shallow = shallow; inside = inside; numbered = six; near = near; as_due = due l p i r a shallow inside six near h }

-- ---- the root's own corners
-- where Q is 2^42 times a corner's number in each coordinate, the point is that corner
there : (r : Root) (X Y Z : ℕ) (v : Corner)
    → ((of : Corner → ℤ) → q (λ j. of (corner r j)) X Y Z ≡ pos (2 ^ 42) *ℤ of v)
    → record {
      x = coordinate (q (λ j. (corner r j).x) X Y Z);
      y = coordinate (q (λ j. (corner r j).y) X Y Z);
      z = coordinate (q (λ j. (corner r j).z) X Y Z);
    } ≡ pointed v
there r X Y Z v weighed =
    λ i. record {
      x = (ap coordinate (weighed (λ c. c.x)) ∙ whole v.x) i;
      y = (ap coordinate (weighed (λ c. c.y)) ∙ whole v.y) i;
      z = (ap coordinate (weighed (λ c. c.z)) ∙ whole v.z) i;
    }

at_root_lem : (r : Root) (i : ℕ) → i < 6 → point_at r (prisms.corner 21 (element_at prism 0 0) i) ≡ pointed (corner r i)
unfolding element_at prism_to
at_root_lem r zero h = there r 0 0 0 r.v0 (λ of. at_0 (λ j. of (corner r j)))
at_root_lem r (suc zero) h = there r 2097152 0 0 r.v1 (λ of. at_1 (λ j. of (corner r j)))
at_root_lem r (suc (suc zero)) h = there r 2097152 2097152 0 r.v2 (λ of. at_2 (λ j. of (corner r j)))
at_root_lem r (suc (suc (suc zero))) h = there r 0 0 2097152 r.v3 (λ of. at_3 (λ j. of (corner r j)))
at_root_lem r (suc (suc (suc (suc zero)))) h = there r 2097152 0 2097152 r.v4 (λ of. at_4 (λ j. of (corner r j)))
at_root_lem r (suc (suc (suc (suc (suc zero))))) h = there r 2097152 2097152 2097152 r.v5 (λ of. at_5 (λ j. of (corner r j)))
at_root_lem r (suc (suc (suc (suc (suc (suc i)))))) h = absurd (omega arith)

own : (r : Root) (i : ℕ) → root_within r ≡ true → i < 6 → corner_point 0 0 i r ≡ accepted (pointed (corner r i))
own r i near h = point_accepted 0 0 i r (lit≤ tt) (lit< tt) h near ∙ ap accepted (at_root_lem r i h)

-- ---- one point for one local corner
module _ (l p i m s j : ℕ) (r : Root) (a : l ≤ 21) (b : p < 8 ^ l) (c : i < 6) (d : m ≤ 21) (e : s < 8 ^ m) (f : j < 6)
    (alike : prisms.corner 21 (element_at prism l p) i ≡ prisms.corner 21 (element_at prism m s) j) where
  by_root : (t : Bool) → root_within r ≡ t → corner_point l p i r ≡ corner_point m s j r
  by_root true near =
      point_accepted l p i r a b c near ∙ ap (λ (k : prisms.Corner). accepted (point_at r k)) alike ∙ sym (point_accepted m s j r d e f near)
  by_root false out = point_refused_24 l p i r a b c out ∙ sym (point_refused_24 m s j r d e f out)

  shared : corner_point l p i r ≡ corner_point m s j r
  shared = by_root (root_within r) refl

pub promised : Promised
promised =
    record {
      accepts = λ l p i r a b c near. point_accepted l p i r a b c near;
      answered = λ l p i r a. (answers l p i r a, λ h. only_due l p i r a h.shallow h.inside h.numbered h.near h.as_due);
      section =
          record {
            accepts = λ l ps i r m found. (accepts_there l ps i r m found, accepts_back l ps i r m found);
            unequal = λ l ps i r m k. (unequal_there l ps i r m k, unequal_back l ps i r m k);
            place = λ l ps i r m k. (place_there l ps i r m k, λ h. place_back l ps i r m h.0 k h.1.0 h.1.1);
            as_single = λ l ps i r m number k long h. (as_single l ps i r m long number k h).0;
            unplaced = λ l ps i r m number k long h. (as_single l ps i r m long number k h).1;
          };
      exact = exact;
      bounded = record { small = small };
      meaning = record { root's_own = own; shared = shared };
    }
