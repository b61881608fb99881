-- What is promised of corner points, as statements; `proofs/Promised.antt` proves them. Definitions only.
--
--   IsQuotient x z   x is an f64 with exactly the value z / 2^42, "zero as +0": the sign is minus only below 0
--   Exact            a coordinate has that value, and no other f64 has it
--   AsDue r c a      each coordinate of the point a has exactly that value at the local corner c
--   q_at, Small      Q of one coordinate at a local corner; |Q| <= 2^51 in each of the three
--   Bounded          |Q| <= 2^51 in each coordinate for every local corner in the root, where every corner of every element lies (`Refusal4` of
--                    `prism/specs/Points.antt`)
--   pointed v        a corner of the root as a point
--   Meaning          the corners of the root element are the root's own six; two corners with the same local (X, Y, Z) get the
--                    same point, whatever their levels
--   Answers          the level, position, corner number and root are in range, and the point a is as due
--   Promised         all of it, that of a whole section too (`SectionLaws.antt`); what is accepted: any root with numbers from -512 to 512,
--                    "flat or folded"; and the single call accepts exactly in these ranges, with the point that is due and no other
--
-- Assumes nothing.
use Rattle.std.specs.Prelude.{◌≡◌, ◌↔◌, true, ℕ, ◌^◌, ◌≤◌, ◌<◌, T, ℤ, nat_abs, Float}
use Rattle.std.specs.Float.{binary64}
use Rattle.std.specs.Float.Ieee.{of_int, fits}
use Rattle.std.specs.Float.Ieee.Exact.{HasValue}
use Rattle.paper.specs.Outcome.{accepted}
use Rattle.tree.specs.Anchors.{HIGHEST}
use Rattle.tree.specs.Words.{element_at}
use Rattle.prism.specs.Elements.{CHILDREN, CORNERS, prism}
use Rattle.prism.specs.Points as prisms
use Rattle.corners.specs.declared.Corner.{Corner}
use Rattle.corners.specs.declared.Root.{Root}
use Rattle.corners.specs.declared.Point.{Point}
use Rattle.corners.specs.CornerPoints.{corner, root_within, q, negative, coordinate, point_at, corner_point}
use Rattle.corners.specs.SectionLaws.{SectionLaws}

-- HasValue x s a c: x is finite, has the sign s, and is a / c in size
pub record IsQuotient (x : Float) (z : ℤ) : Type 0 where
  pub double : T (fits binary64 x)
  pub value : HasValue x (negative z) (nat_abs z) (2 ^ 42)

pub record Exact : Type 0 where
  pub is : (z : ℤ) → nat_abs z ≤ 2 ^ 51 → IsQuotient (coordinate z) z
  pub only : (z : ℤ) (x : Float) → nat_abs z ≤ 2 ^ 51 → IsQuotient x z → x ≡ coordinate z

-- Q of one coordinate at a local corner
abbrev pub q_at : (Corner → ℤ) → Root → prisms.Corner → ℤ
q_at coordinate_of r c = q (λ j. coordinate_of (corner r j)) c.plan.x c.plan.y c.height

pub record Small (r : Root) (c : prisms.Corner) : Type 0 where
  pub in_x : nat_abs (q_at (λ v. v.x) r c) ≤ 2 ^ 51
  pub in_y : nat_abs (q_at (λ v. v.y) r c) ≤ 2 ^ 51
  pub in_z : nat_abs (q_at (λ v. v.z) r c) ≤ 2 ^ 51

pub record Bounded : Type 0 where
  pub small : (r : Root) (c : prisms.Corner) → root_within r ≡ true → prisms.InRoot HIGHEST c → Small r c

-- each coordinate of the point a has exactly the value Q / 2^42 at the local corner c
pub record AsDue (r : Root) (c : prisms.Corner) (a : Point) : Type 0 where
  pub x_is : IsQuotient a.x (q_at (λ v. v.x) r c)
  pub y_is : IsQuotient a.y (q_at (λ v. v.y) r c)
  pub z_is : IsQuotient a.z (q_at (λ v. v.z) r c)

-- a corner of the root as a point
abbrev pub pointed : Corner → Point
pointed v = record { x = of_int binary64 v.x; y = of_int binary64 v.y; z = of_int binary64 v.z }

pub record Meaning : Type 0 where
  pub root's_own : (r : Root) (i : ℕ) → root_within r ≡ true → i < CORNERS → corner_point 0 0 i r ≡ accepted (pointed (corner r i))
  pub shared : (l p i m s j : ℕ) (r : Root) → l ≤ HIGHEST → p < CHILDREN ^ l → i < CORNERS → m ≤ HIGHEST → s < CHILDREN ^ m → j < CORNERS
      → prisms.corner HIGHEST (element_at prism l p) i ≡ prisms.corner HIGHEST (element_at prism m s) j
      → corner_point l p i r ≡ corner_point m s j r

-- a corner that there is, in a root that may be, and the point that is due there
pub record Answers (l p i : ℕ) (r : Root) (a : Point) : Type 0 where
  pub shallow : l ≤ HIGHEST
  pub inside : p < CHILDREN ^ l
  pub numbered : i < CORNERS
  pub near : root_within r ≡ true
  pub as_due : AsDue r (prisms.corner HIGHEST (element_at prism l p) i) a

pub record Promised : Type 0 where
  pub accepts : (l p i : ℕ) (r : Root) → l ≤ HIGHEST → p < CHILDREN ^ l → i < CORNERS → root_within r ≡ true
      → corner_point l p i r ≡ accepted (point_at r (prisms.corner HIGHEST (element_at prism l p) i))
  pub answered : (l p i : ℕ) (r : Root) (a : Point) → corner_point l p i r ≡ accepted a ↔ Answers l p i r a
  pub section : SectionLaws
  pub exact : Exact
  pub bounded : Bounded
  pub meaning : Meaning
