-- Document 01, "Elements": "This is Bey's rule (thesis, definition 3) in the order of the index", and the thesis's definition 4: a prism is
-- halved in height and its base is divided as in definition 3. Definitions only.
--
--   Midpoint m a b     m lies half way between a and b; PrismMidpoint m a b the same of corners of a prism, in plan and in height
--   Ends, ends i j     two corner numbers, whose midpoint is meant
--   bey_child i        the thesis's definition 3: the corners of Bey's child i, as pairs of the parent's corner numbers whose
--                      midpoints they are (its T0 reads x2 where x02 is meant)
--   bey_number t i     which of Bey's children is child i by curve number, of a parent of type t: "Bey's numbers are not curve numbers"
--   bey_prism_child i  the thesis's definition 4: the corners of child i of a prism, in the same way
--   bey_prism_number t i   which of those is child i by curve number: 4 times the line number plus the triangle's number, Bey's
--   Bey L              the children are Bey's, of triangles and of prisms
--
-- Assumes nothing.
use Rattle.std.specs.Prelude.{◌≡◌, List, [], ◌∷◌, ℕ, ◌+◌, ◌*◌, ◌/◌, ◌%◌, ◌<◌, get_or}
use Rattle.tree.specs.Laws.{Sound}
use Rattle.triangle.specs.declared.Triangle.{Triangle}
use Rattle.triangle.specs.Elements.{CHILDREN, CORNERS, triangle_to, child}
use Rattle.triangle.specs.Points.{Point, corner}
use Rattle.prism.specs.declared.Prism.{Prism}
use Rattle.prism.specs.Elements.{prism_to}
use Rattle.prism.specs.Points.{Corner}
use Rattle.prism.specs.Elements as prisms
use Rattle.prism.specs.Points as prism_points

pub record Midpoint (m a b : Point) : Type 0 where
  pub half_x : 2 * m.x ≡ a.x + b.x
  pub half_y : 2 * m.y ≡ a.y + b.y

pub record PrismMidpoint (m a b : Corner) : Type 0 where
  pub in_plan : Midpoint m.plan a.plan b.plan
  pub half_height : 2 * m.height ≡ a.height + b.height

pub record Ends : Type 0 where
  pub from : ℕ
  pub to : ℕ

abbrev pub ends : ℕ → ℕ → Ends
ends i j = record { from = i; to = j }

-- T0 = [x0, x01, x02], T1 = [x01, x1, x12], T2 = [x02, x12, x2], T3 = [x01, x02, x12]; a corner xi is the midpoint of i and i
abbrev pub bey_child : ℕ → List Ends
bey_child i =
    get_or
    ((ends 0 0 ∷ ends 0 1 ∷ ends 0 2 ∷ [])
    ∷ (ends 0 1 ∷ ends 1 1 ∷ ends 1 2 ∷ [])
    ∷ (ends 0 2 ∷ ends 1 2 ∷ ends 2 2 ∷ [])
    ∷ (ends 0 1 ∷ ends 0 2 ∷ ends 1 2 ∷ [])
    ∷ [])
    i []

abbrev pub bey_number : ℕ → ℕ → ℕ
bey_number t i = get_or (get_or ((0 ∷ 1 ∷ 3 ∷ 2 ∷ []) ∷ (0 ∷ 3 ∷ 1 ∷ 2 ∷ []) ∷ []) t []) i 0

-- P0 = [x0, x01, x02, x03, x04, x05], P1 = [x01, x1, x12, x04, x14, x15], P2 = [x02, x12, x2, x05, x15, x25], P3 = [x01, x02, x12, x04, x05, x15],
-- P4 = [x03, x04, x05, x3, x34, x35], P5 = [x04, x14, x15, x34, x4, x45], P6 = [x05, x15, x25, x35, x45, x5], P7 = [x04, x05, x15, x34, x35, x45]
abbrev pub bey_prism_child : ℕ → List Ends
bey_prism_child i =
    get_or
    ((ends 0 0 ∷ ends 0 1 ∷ ends 0 2 ∷ ends 0 3 ∷ ends 0 4 ∷ ends 0 5 ∷ [])
    ∷ (ends 0 1 ∷ ends 1 1 ∷ ends 1 2 ∷ ends 0 4 ∷ ends 1 4 ∷ ends 1 5 ∷ [])
    ∷ (ends 0 2 ∷ ends 1 2 ∷ ends 2 2 ∷ ends 0 5 ∷ ends 1 5 ∷ ends 2 5 ∷ [])
    ∷ (ends 0 1 ∷ ends 0 2 ∷ ends 1 2 ∷ ends 0 4 ∷ ends 0 5 ∷ ends 1 5 ∷ [])
    ∷ (ends 0 3 ∷ ends 0 4 ∷ ends 0 5 ∷ ends 3 3 ∷ ends 3 4 ∷ ends 3 5 ∷ [])
    ∷ (ends 0 4 ∷ ends 1 4 ∷ ends 1 5 ∷ ends 3 4 ∷ ends 4 4 ∷ ends 4 5 ∷ [])
    ∷ (ends 0 5 ∷ ends 1 5 ∷ ends 2 5 ∷ ends 3 5 ∷ ends 4 5 ∷ ends 5 5 ∷ [])
    ∷ (ends 0 4 ∷ ends 0 5 ∷ ends 1 5 ∷ ends 3 4 ∷ ends 3 5 ∷ ends 4 5 ∷ [])
    ∷ [])
    i []

abbrev pub bey_prism_number : ℕ → ℕ → ℕ
bey_prism_number t i = 4 * (i / 4) + bey_number t (i % 4)

-- the children are Bey's: corner j of child i is the midpoint that definition 3 names, of a prism that definition 4 names
pub record Bey (L : ℕ) : Type 0 where
  pub midpoints : (e : Triangle) (i j : ℕ) → Sound (triangle_to L) e → e.level < L → i < CHILDREN → j < CORNERS
      → let named = get_or (bey_child (bey_number e.kind i)) j (ends 0 0) in
      Midpoint (corner L (child L e i) j) (corner L e named.from) (corner L e named.to)
  pub prism_midpoints : (e : Prism) (i j : ℕ) → Sound (prism_to L) e → e.level < L → i < prisms.CHILDREN → j < prisms.CORNERS
      → let named = get_or (bey_prism_child (bey_prism_number e.kind i)) j (ends 0 0) in
      PrismMidpoint (prism_points.corner L (prisms.child L e i) j) (prism_points.corner L e named.from) (prism_points.corner L e named.to)
