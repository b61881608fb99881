-- Document 01, "Elements": lines. L is the highest level. Definitions only.
--
--   "Lower line half is 0, upper is 1."   "Line face 0 is x-h, face 1 is x+h."
--   Faults: 1 level above the highest, 2 anchor 2^21 or more, or no multiple of h
--
--   CHILDREN, FACES, CORNERS   "children 2 ..; faces 2 ..; corners 2"
--   line_to L     lines as a shape, highest level L
--   line          "highest level 21 for all three"
--
-- Not here: several in lent columns (`Columns.antt`). Assumes nothing.
use Rattle.std.specs.Prelude.{◌&&◌, ℕ, suc, ◌+◌, ◌-◌, ◌*◌, ltb, eqb}
use Rattle.paper.specs.Outcome.{Outcome, accepted, refuse_when, fault_when}
use Rattle.tree.specs.Shape.{Shape}
use Rattle.tree.specs.Anchors.{HIGHEST, side, off_grid, rounded, bit_at, moved, off_edge}
use Rattle.line.specs.declared.Line.{Line}

abbrev pub CHILDREN : ℕ
CHILDREN = 2

abbrev pub FACES : ℕ
FACES = 2

abbrev pub CORNERS : ℕ
CORNERS = 2

module _ (L : ℕ) where
  abbrev pub fault : Line → ℕ
  fault e = fault_when (ltb L e.level) 1 (fault_when (off_grid L e.level e.x) 2 0)

  abbrev pub child : Line → ℕ → Line
  child e i = record { x = e.x + i * side L (suc e.level); level = suc e.level }

  abbrev pub parent : Line → Line
  parent e = record { x = rounded L (e.level - 1) e.x; level = e.level - 1 }

  abbrev pub number : Line → ℕ
  number e = bit_at L e.level e.x

  -- face 0 is 0 sides from -1 on, face 1 is 2
  abbrev pub neighbour : Line → ℕ → Outcome Line
  neighbour e i =
      refuse_when (off_edge L (side L e.level) (2 * i) e.x) 10
      (accepted (record { x = moved (side L e.level) (2 * i) e.x; level = e.level }))

  unfoldable pub line_to : Shape Line
  line_to =
      record {
        children = CHILDREN;
        faces = FACES;
        corners = CORNERS;
        highest = L;
        level = λ e. e.level;
        fault = fault;
        root = record { x = 0; level = 0 };
        child = child;
        parent = parent;
        number = number;
        neighbour = neighbour;
        same = λ e f. eqb e.x f.x && eqb e.level f.level;
      }

abbrev pub line : Shape Line
line = line_to HIGHEST
