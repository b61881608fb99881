-- Document 01, "Corner points": where a corner of an element lies in space. Definitions only.
--
--   Corner, Root            "A root has six corners of three signed whole numbers each": v0 to v5; corner r j is vj
--   within                  ".. from -512 to 512": whether a number is; all_within, corner_within of a corner's three, root_within of a
--                           root's eighteen
--   t v Z j                 "Tj = 2^21·vj + (v(j+3) - vj)·Z for j = 0, 1, 2", v being one coordinate of the root's corners
--   q v X Y Z               "Q = 2^21·T0 + (T1-T0)·X + (T2-T1)·Y"
--   negative z              whether the sign is minus, which that of zero is not
--   coordinate z            the f64 nearest to z / 2^42, zero as +0; `Laws.antt` says that it has exactly that value
--   point_at r c            "The answer is .. a point of three f64", for the local corner c, which is (X, Y, Z)
--   corner_point l p i r    the call: "Points take a level and a position: 1, 5, 8, 24."
--
-- Not here: local corners by type (`prism/specs/Points.antt`). Assumes nothing.
use Rattle.std.specs.Prelude.{Bool, true, false, not, ◌&&◌, [], ◌∷◌, ℕ, ◌+◌, ◌^◌, ℤ, pos, negsuc, nat_abs, ◌+ℤ◌, ◌-ℤ◌, ◌*ℤ◌, leb, ltb, get_or, Float}
use Rattle.std.specs.Int.Signed.{le_z}
use Rattle.std.specs.Float.{binary64}
use Rattle.std.specs.Float.Ieee.{round}
use Rattle.paper.specs.Outcome.{Outcome, accepted, refuse_when}
use Rattle.tree.specs.Anchors.{HIGHEST, EDGE}
use Rattle.tree.specs.Words.{element_at}
use Rattle.prism.specs.Elements.{CHILDREN, CORNERS, prism}
use Rattle.prism.specs.Points as prisms
use Rattle.corners.specs.declared.Corner.{Corner}
use Rattle.corners.specs.declared.Root.{Root}
use Rattle.corners.specs.declared.Point.{Point}

abbrev pub corner : Root → ℕ → Corner
corner r j = get_or (r.v0 ∷ r.v1 ∷ r.v2 ∷ r.v3 ∷ r.v4 ∷ r.v5 ∷ []) j r.v0

-- negsuc 511 is -512
abbrev pub within : ℤ → Bool
within v = le_z (negsuc 511) v && le_z v (pos 512)

abbrev pub all_within : ℤ → ℤ → ℤ → Bool
all_within x y z = within x && (within y && within z)

abbrev pub corner_within : Corner → Bool
corner_within c = all_within c.x c.y c.z

abbrev pub root_within : Root → Bool
root_within r =
    corner_within r.v0
    && (corner_within r.v1
    && (corner_within r.v2 && (corner_within r.v3 && (corner_within r.v4 && corner_within r.v5))))

abbrev pub t : (ℕ → ℤ) → ℕ → ℕ → ℤ
t v Z j = pos EDGE *ℤ v j +ℤ (v (j + 3) -ℤ v j) *ℤ pos Z

abbrev pub q : (ℕ → ℤ) → ℕ → ℕ → ℕ → ℤ
q v X Y Z = pos EDGE *ℤ t v Z 0 +ℤ (t v Z 1 -ℤ t v Z 0) *ℤ pos X +ℤ (t v Z 2 -ℤ t v Z 1) *ℤ pos Y

abbrev pub negative : ℤ → Bool
negative (pos n) = false
negative (negsuc n) = true

unfoldable pub coordinate : ℤ → Float
unfolding round
coordinate z = round binary64 (negative z) (nat_abs z) (2 ^ 42)

abbrev pub coordinate_at : (ℕ → ℤ) → prisms.Corner → Float
coordinate_at v c = coordinate (q v c.plan.x c.plan.y c.height)

abbrev pub point_at : Root → prisms.Corner → Point
point_at r c =
    record {
      x = coordinate_at (λ j. (corner r j).x) c;
      y = coordinate_at (λ j. (corner r j).y) c;
      z = coordinate_at (λ j. (corner r j).z) c;
    }

unfoldable pub corner_point : ℕ → ℕ → ℕ → Root → Outcome Point
corner_point l p i r =
    refuse_when (ltb HIGHEST l) 1
    (refuse_when (leb (CHILDREN ^ l) p) 5
    (refuse_when (leb CORNERS i) 8
    (refuse_when (not (root_within r)) 24
    (accepted (point_at r (prisms.corner HIGHEST (element_at prism l p) i))))))
