-- Document 01, "Elements": triangles. L is the highest level; the field `kind` is the type. Definitions only.
--
--   "The root is type 0. Inside the root means y <= x for type 0 and y < x for type 1"
--   Faults: 1 level above the highest, 2 anchor 2^21 or more, or no multiple of h, 3 type above 1, 4 outside the root
--
--   CHILDREN, FACES, CORNERS   "children .. 4 ..; faces .. 3 ..; corners .. 3"
--   triangle_to L  triangles as a shape, highest level L
--   triangle       "highest level 21 for all three"
--
-- Not here: several in lent columns (`Columns.antt`). Assumes nothing.
use Rattle.std.specs.Prelude.{Bool, not, ◌&&◌, ◌||◌, ℕ, zero, suc, ◌+◌, ◌-◌, ◌*◌, leb, ltb, eqb}
use Rattle.paper.specs.Outcome.{Outcome, accepted, refuse_when, fault_when}
use Rattle.tree.specs.Shape.{Shape}
use Rattle.tree.specs.Anchors.{HIGHEST, side, off_grid, rounded, bit_at, moved, off_edge}
use Rattle.rows.specs.declared.Step.{Step}
use Rattle.triangle.specs.declared.Triangle.{Triangle}
use Rattle.rows.specs.Rows.{step, child_row, parent_kind, number_of, face_row}

abbrev pub CHILDREN : ℕ
CHILDREN = 4

abbrev pub FACES : ℕ
FACES = 3

abbrev pub CORNERS : ℕ
CORNERS = 3

-- by type: x and y of an anchor
abbrev pub inside_root : ℕ → ℕ → ℕ → Bool
inside_root zero x y = leb y x
inside_root (suc t) x y = ltb y x

module _ (L : ℕ) where
  abbrev pub fault : Triangle → ℕ
  fault e =
      fault_when (ltb L e.level) 1
      (fault_when (off_grid L e.level e.x || off_grid L e.level e.y) 2
      (fault_when (ltb 1 e.kind) 3
      (fault_when (not (inside_root e.kind e.x e.y)) 4 0)))

  -- the element that is the given step away from the anchor of e, a side of the next level each
  abbrev pub stepped : Triangle → Step → Triangle
  stepped e s =
      record {
        x = e.x + s.x * side L (suc e.level);
        y = e.y + s.y * side L (suc e.level);
        level = suc e.level;
        kind = s.kind;
      }

  abbrev pub child : Triangle → ℕ → Triangle
  child e i = stepped e (child_row e.kind i)

  -- the step that leads to e from its parent's anchor
  abbrev pub step_to : Triangle → Step
  step_to e = step (bit_at L e.level e.x) (bit_at L e.level e.y) e.kind

  abbrev pub parent : Triangle → Triangle
  parent e =
      record {
        x = rounded L (e.level - 1) e.x;
        y = rounded L (e.level - 1) e.y;
        level = e.level - 1;
        kind = parent_kind (step_to e);
      }

  abbrev pub number : Triangle → ℕ
  number e = number_of (step_to e)

  -- the element across a face, as the face's row says, or refused where that lies outside the root
  abbrev pub across_by : Triangle → Step → Outcome Triangle
  across_by e s =
      let h = side L e.level in
      let x = moved h s.x e.x in
      let y = moved h s.y e.y in
      refuse_when (off_edge L h s.x e.x || (off_edge L h s.y e.y || not (inside_root s.kind x y))) 10
      (accepted (record { x = x; y = y; level = e.level; kind = s.kind }))

  abbrev pub neighbour : Triangle → ℕ → Outcome Triangle
  neighbour e i = across_by e (face_row e.kind i)

  unfoldable pub triangle_to : Shape Triangle
  triangle_to =
      record {
        children = CHILDREN;
        faces = FACES;
        corners = CORNERS;
        highest = L;
        level = λ e. e.level;
        fault = fault;
        root = record { x = 0; y = 0; level = 0; kind = 0 };
        child = child;
        parent = parent;
        number = number;
        neighbour = neighbour;
        same = λ e f. eqb e.x f.x && (eqb e.y f.y && (eqb e.level f.level && eqb e.kind f.kind));
      }

abbrev pub triangle : Shape Triangle
triangle = triangle_to HIGHEST
