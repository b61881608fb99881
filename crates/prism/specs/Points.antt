-- Document 01, "Elements": the corner points of a prism, and which of them lie in a face. Definitions only.
--
--   Corner, lifted z p   a point p of the ground plan and a height z
--   corners L e        "A prism is a triangle times the line from z to z+h: corners 0 to 2 at z, 3 to 5 at z+h"
--   corner L e i       corner i of them: the triangle's, by the remainder of 3, at the line's, by the quotient
--   face_points L e i  the corner points of face i (the thesis's definition 27): of a side, those of the triangle's face at both
--                      heights; below and above, the whole triangle
--   face_table         the corners of each face by number, as the thesis's definition 27 lists them
--   faces L e          the faces by that list
--   face_across i      the number of that face as the neighbour has it
--   InRoot L c         the point c lies in the root: its ground plan in the root of triangles, and its height at most 2^L
--   OnGrid L e         e passes the checks 1, 2 and 3: its triangle does, and z is below 2^L and a multiple of the side
--   Refusal4 L         4 means on the grid with a corner outside the root: an element is on the grid exactly when its fault is none or 4,
--                      and one on the grid has none, and so is sound, exactly when all its corners lie in the root
--
-- Assumes nothing.
use Rattle.std.specs.Prelude.{◌≡◌, ◌↔◌, ◌⊎◌, cond, List, [], ◌∷◌, ◌++◌, map, ℕ, ◌+◌, ◌-◌, ◌%◌, ◌/◌, ◌^◌, ◌≤◌, ◌<◌, ltb}
use Rattle.tree.specs.Anchors.{side}
use Rattle.tree.specs.Laws.{Sound}
use Rattle.triangle.specs.Points.{Point}
use Rattle.line.specs.Points as line
use Rattle.triangle.specs.Points as triangle
use Rattle.prism.specs.declared.Prism.{Prism}
use Rattle.prism.specs.Elements.{CORNERS, prism_to, plan, upright}

pub record Corner : Type 0 where
  pub plan : Point
  pub height : ℕ

abbrev pub lifted : ℕ → Point → Corner
lifted z p = record { plan = p; height = z }

abbrev pub corners : ℕ → Prism → List Corner
corners L e =
    map (lifted e.z) (triangle.corners L (plan e))
    ++ map (lifted (e.z + side L e.level)) (triangle.corners L (plan e))

abbrev pub corner : ℕ → Prism → ℕ → Corner
corner L e i = lifted (line.corner L (upright e) (i / 3)) (triangle.corner L (plan e) (i % 3))

abbrev pub face_points : ℕ → Prism → ℕ → List Corner
face_points L e i =
    cond (ltb i 3)
    (map (lifted (line.corner L (upright e) 0)) (triangle.face_points L (plan e) i)
    ++ map (lifted (line.corner L (upright e) 1)) (triangle.face_points L (plan e) i))
    (map (lifted (line.corner L (upright e) (i - 3)))
    (triangle.corner L (plan e) 0 ∷ triangle.corner L (plan e) 1 ∷ triangle.corner L (plan e) 2 ∷ []))

abbrev pub face_across : ℕ → ℕ
face_across i = cond (ltb i 3) (triangle.face_across i) (3 + line.face_across (i - 3))

abbrev pub face_table : List (List ℕ)
face_table =
    (1 ∷ 2 ∷ 4 ∷ 5 ∷ [])
    ∷ (0 ∷ 2 ∷ 3 ∷ 5 ∷ [])
    ∷ (0 ∷ 1 ∷ 3 ∷ 4 ∷ [])
    ∷ (0 ∷ 1 ∷ 2 ∷ [])
    ∷ (3 ∷ 4 ∷ 5 ∷ [])
    ∷ []

abbrev pub faces : ℕ → Prism → List (List Corner)
faces L e = map (map (corner L e)) face_table

pub record InRoot (L : ℕ) (c : Corner) : Type 0 where
  pub in_plan : triangle.InRoot L c.plan
  pub upwards : c.height ≤ 2 ^ L

pub record OnGrid (L : ℕ) (e : Prism) : Type 0 where
  pub in_plan : triangle.OnGrid L (plan e)
  pub z_below : e.z < 2 ^ L
  pub z_multiple : e.z % side L e.level ≡ 0

pub record Refusal4 (L : ℕ) : Type 0 where
  pub on_grid : (e : Prism) → OnGrid L e ↔ (((prism_to L).fault e ≡ 0) ⊎ ((prism_to L).fault e ≡ 4))
  pub inside : (e : Prism) → OnGrid L e → Sound (prism_to L) e ↔ ((i : ℕ) → i < CORNERS → InRoot L (corner L e i))
