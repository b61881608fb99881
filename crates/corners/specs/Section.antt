-- Document 02, ticket 1, "Corners for a whole section": "one call over a column of positions at one level, one root and one corner number,
-- filling three columns of f64." Definitions only.
--
--   PointColumns      "three columns of f64": xs, ys, zs
--   equal_lengths     whether the column of positions and the three are equally long
--   points l ps i r   "The result equals the single calls one by one": the point of corner i at each of the positions ps
--   corner_points     the call: "columns of different lengths are refused first", then "Checks run in the single call's order", 1, 5, 8, 24; "the
--                     place of a 5 is the first bad index. Every position is checked before the corner number"
--   filled found m    the columns m with the points found: an accepted call fills the three to their end
--   SectionFilled     the contract of the call: it answers nothing beyond the points that it writes; "a refusal anywhere writes nothing"
--
-- Not here: the single call (`CornerPoints.antt`), that the two agree (`SectionLaws.antt`). Assumes nothing.
use Rattle.std.specs.Prelude.{Bool, not, ◌&&◌, List, map, ℕ, leb, ltb, eqb, length, Float}
use Rattle.std.specs.declared.result.Result.{Result}
use Rattle.paper.specs.Outcome.{Outcome, accepted, mapped, refuse_when, scan}
use Rattle.paper.specs.Memory.{written, Fulfils}
use Rattle.paper.specs.Refusals.{outcome_of}
use Rattle.paper.specs.declared.Refusal.{Refusal}
use Rattle.tree.specs.Anchors.{HIGHEST}
use Rattle.tree.specs.Words.{element_at}
use Rattle.prism.specs.Elements.{CORNERS, prism}
use Rattle.prism.specs.Points as prisms
use Rattle.positions.specs.Positions.{position_fault}
use Rattle.corners.specs.declared.Root.{Root}
use Rattle.corners.specs.declared.Point.{Point}
use Rattle.corners.specs.CornerPoints.{root_within, point_at}

pub record PointColumns : Type 0 where
  pub xs : List Float
  pub ys : List Float
  pub zs : List Float

abbrev pub point_columns : List Float → List Float → List Float → PointColumns
point_columns xs ys zs = record { xs = xs; ys = ys; zs = zs }

abbrev pub equal_lengths : List ℕ → PointColumns → Bool
equal_lengths ps m =
    eqb (length ps) (length m.xs) && (eqb (length ps) (length m.ys) && eqb (length ps) (length m.zs))

abbrev pub points : ℕ → List ℕ → ℕ → Root → List Point
points l ps i r = map (λ p. point_at r (prisms.corner HIGHEST (element_at prism l p) i)) ps

unfoldable pub corner_points : ℕ → List ℕ → ℕ → Root → PointColumns → Outcome (List Point)
corner_points l ps i r m =
    refuse_when (not (equal_lengths ps m)) 11
    (refuse_when (ltb HIGHEST l) 1
    (scan (position_fault l) 0 ps
    (refuse_when (leb CORNERS i) 8
    (refuse_when (not (root_within r)) 24
    (accepted (points l ps i r))))))

abbrev pub filled : List Point → PointColumns → PointColumns
filled found m =
    point_columns
    (written (map (λ (a : Point). a.x) found) m.xs)
    (written (map (λ (a : Point). a.y) found) m.ys)
    (written (map (λ (a : Point). a.z) found) m.zs)

abbrev pub SectionFilled : ℕ → List ℕ → ℕ → Root → Result (Unit {0}) Refusal → PointColumns → PointColumns → Type 0
SectionFilled l ps i r a m m' = Fulfils outcome_of (mapped (λ (found : List Point). tt)) filled (corner_points l ps i r m) a m m'
