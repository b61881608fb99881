-- Document 01, "Elements": prisms. "A prism is a triangle times the line from z to z+h". L is the highest level. Definitions only.
--
--   "Inside the root means y <= x for type 0 and y < x for type 1; z is free"
--   "A prism child's number is 4 times the line number plus the triangle number."
--   "Prism faces 0 to 2 follow the triangle; face 3 is z-h, face 4 is z+h, same type."
--   Faults: 1 level above the highest, 2 anchor 2^21 or more, or no multiple of h, 3 type above 1, 4 outside the root
--
--   CHILDREN, FACES, CORNERS   "children .. 8; faces .. 5; corners .. 6"
--   plan, upright        the two that a prism is the product of; product puts them together again
--   prism_to L           prisms as a shape, highest level L
--   prism                "highest level 21 for all three"
--
-- Not here: several in lent columns (`Columns.antt`). Assumes nothing.
use Rattle.std.specs.Prelude.{not, cond, ◌&&◌, ◌||◌, ℕ, ◌+◌, ◌-◌, ◌*◌, ◌/◌, ◌%◌, ltb, eqb}
use Rattle.paper.specs.Outcome.{Outcome, mapped, fault_when}
use Rattle.tree.specs.Shape.{Shape}
use Rattle.tree.specs.Anchors.{HIGHEST, off_grid}
use Rattle.line.specs.declared.Line.{Line}
use Rattle.triangle.specs.declared.Triangle.{Triangle}
use Rattle.line.specs.Elements as line
use Rattle.triangle.specs.Elements as triangle
use Rattle.prism.specs.declared.Prism.{Prism}

abbrev pub CHILDREN : ℕ
CHILDREN = 8

abbrev pub FACES : ℕ
FACES = 5

abbrev pub CORNERS : ℕ
CORNERS = 6

abbrev pub plan : Prism → Triangle
plan e = record { x = e.x; y = e.y; level = e.level; kind = e.kind }

abbrev pub upright : Prism → Line
upright e = record { x = e.z; level = e.level }

abbrev pub product : Triangle → Line → Prism
product t m = record { x = t.x; y = t.y; z = m.x; level = t.level; kind = t.kind }

module _ (L : ℕ) where
  abbrev pub fault : Prism → ℕ
  fault e =
      fault_when (ltb L e.level) 1
      (fault_when (off_grid L e.level e.x || (off_grid L e.level e.y || off_grid L e.level e.z)) 2
      (fault_when (ltb 1 e.kind) 3
      (fault_when (not (triangle.inside_root e.kind e.x e.y)) 4 0)))

  abbrev pub child : Prism → ℕ → Prism
  child e i = product (triangle.child L (plan e) (i % 4)) (line.child L (upright e) (i / 4))

  abbrev pub parent : Prism → Prism
  parent e = product (triangle.parent L (plan e)) (line.parent L (upright e))

  abbrev pub number : Prism → ℕ
  number e = 4 * line.number L (upright e) + triangle.number L (plan e)

  unfoldable pub neighbour : Prism → ℕ → Outcome Prism
  neighbour e i =
      cond (ltb i 3)
      (mapped (λ (t : Triangle). product t (upright e)) (triangle.neighbour L (plan e) i))
      (mapped (λ (m : Line). product (plan e) m) (line.neighbour L (upright e) (i - 3)))

  unfoldable pub prism_to : Shape Prism
  prism_to =
      record {
        children = CHILDREN;
        faces = FACES;
        corners = CORNERS;
        highest = L;
        level = λ e. e.level;
        fault = fault;
        root = record { x = 0; y = 0; z = 0; level = 0; kind = 0 };
        child = child;
        parent = parent;
        number = number;
        neighbour = neighbour;
        same = λ e f.
            eqb e.x f.x
            && (eqb e.y f.y && (eqb e.z f.z && (eqb e.level f.level && eqb e.kind f.kind)));
      }

abbrev pub prism : Shape Prism
prism = prism_to HIGHEST
