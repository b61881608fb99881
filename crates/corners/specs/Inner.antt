-- Inner contracts: what functions ask and answer that only this house calls. A reader of the promises may skip this file.
--
--   check_corner    the last tests of both calls: 8, 24
--   Axis            one coordinate of a root's six corners; along a j is its vj
--   Local           local (X, Y, Z), within the root; corner_of is the prism's corner there
--   CornerRow       where a corner of a triangle lies, counted in sides from the anchor
--   AxisOf post     each number of an axis is one that post allows for the corner of the root
--   Near            the six numbers are from -512 to 512
--   mix, Heights    one Tj from its two corners; what is known of the three: from -2^30 to 2^30
--   blend           Q from the three
--   Kept, kept_at   an element and its position; the element of level u at position p, with that position
--   Tested          what the tests of the call over a column of positions have shown
--   AtPosition      a position of the section's level, and its parent; in level 0 the root
--   AtChild         a child of a parent that has children, one level above the section's
--
-- Assumes nothing.
use Rattle.std.specs.Prelude.{◌≡◌, true, not, leb, List, [], ◌∷◌, ℕ, ◌+◌, ◌-◌, ◌*◌, ◌/◌, ◌%◌, ◌^◌, ◌≤◌, ◌<◌, ℤ, pos, nat_abs, ◌+ℤ◌, ◌-ℤ◌, ◌*ℤ◌, get_or}
use Rattle.paper.specs.Outcome.{Outcome, passed, checks, refuse_when}
use Rattle.tree.specs.Anchors.{HIGHEST, EDGE}
use Rattle.tree.specs.Laws.{Sound}
use Rattle.tree.specs.Words.{element_at}
use Rattle.triangle.specs.Points.{point, corners_by}
use Rattle.prism.specs.declared.Prism.{Prism}
use Rattle.prism.specs.Elements.{CHILDREN, CORNERS, prism}
use Rattle.prism.specs.Points.{lifted}
use Rattle.prism.specs.Points as prisms
use Rattle.positions.specs.Positions.{position_fault}
use Rattle.corners.specs.declared.Corner.{Corner}
use Rattle.corners.specs.declared.Root.{Root}
use Rattle.corners.specs.declared.work.Axis.{Axis}
use Rattle.corners.specs.declared.local.Local.{Local}
use Rattle.corners.specs.declared.child.Section.{Section}
use Rattle.corners.specs.declared.section.Kept.{Kept}
use Rattle.corners.specs.CornerPoints.{root_within}
use Rattle.corners.specs.Section.{PointColumns}
use Rattle.corners.specs.SectionLaws.{Equal}

abbrev pub check_corner : ℕ → Root → Outcome (Unit {0})
check_corner i r = refuse_when (leb CORNERS i) 8 (refuse_when (not (root_within r)) 24 passed)

abbrev pub along : Axis → ℕ → ℤ
along a j = get_or (a.v0 ∷ a.v1 ∷ a.v2 ∷ a.v3 ∷ a.v4 ∷ a.v5 ∷ []) j a.v0

pub record AxisOf (post : Corner → ℤ → Type 0) (r : Root) (a : Axis) : Type 0 where
  pub of0 : post r.v0 a.v0
  pub of1 : post r.v1 a.v1
  pub of2 : post r.v2 a.v2
  pub of3 : post r.v3 a.v3
  pub of4 : post r.v4 a.v4
  pub of5 : post r.v5 a.v5

pub record Near (a : Axis) : Type 0 where
  pub near0 : nat_abs a.v0 ≤ 512
  pub near1 : nat_abs a.v1 ≤ 512
  pub near2 : nat_abs a.v2 ≤ 512
  pub near3 : nat_abs a.v3 ≤ 512
  pub near4 : nat_abs a.v4 ≤ 512
  pub near5 : nat_abs a.v5 ≤ 512

abbrev pub mix : ℤ → ℤ → ℕ → ℤ
mix low high Z = pos EDGE *ℤ low +ℤ (high -ℤ low) *ℤ pos Z

pub record Heights (t0 t1 t2 : ℤ) : Type 0 where
  pub tall0 : nat_abs t0 ≤ 2 ^ 30
  pub tall1 : nat_abs t1 ≤ 2 ^ 30
  pub tall2 : nat_abs t2 ≤ 2 ^ 30

abbrev pub blend : ℤ → ℤ → ℤ → ℕ → ℕ → ℤ
blend t0 t1 t2 X Y = mix t0 t1 X +ℤ (t2 -ℤ t1) *ℤ pos Y

-- corner k of a triangle of type t lies s / 2 sides along x and s % 2 along y from the anchor
pub record CornerRow (t k s : ℕ) : Type 0 where
  pub narrow : s ≤ 3
  pub placed : (h x y : ℕ) → get_or (corners_by t h x y) k (point 0 0) ≡ point (x + s / 2 * h) (y + s % 2 * h)

abbrev pub corner_of : Local → prisms.Corner
corner_of p = lifted p.z (point p.x p.y)

abbrev pub kept_at : ℕ → ℕ → Kept
kept_at u p = record { position = p; parent = element_at prism u p }

-- the tests of a section have passed
pub record Tested (l : ℕ) (ps : List ℕ) (i : ℕ) (r : Root) (m : PointColumns) : Type 0 where
  pub equal : Equal ps m
  pub shallow : l ≤ HIGHEST
  pub inside : checks (position_fault l) ps ≡ passed
  pub numbered : i < CORNERS
  pub near : root_within r ≡ true

pub record AtPosition (s : Section) (p : ℕ) (e : Prism) : Type 0 where
  pub inside : p < CHILDREN ^ s.level
  pub parent : e ≡ element_at prism (s.level - 1) (p / CHILDREN)

pub record AtChild (s : Section) (e : Prism) (n : ℕ) : Type 0 where
  pub below : s.level ≡ e.level + 1
  pub above : e.level < HIGHEST
  pub sound : Sound prism e
  pub child : n < CHILDREN
