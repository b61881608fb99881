-- Document 01, "Elements": the corner points of a triangle, and which of them lie in a face. Definitions only.
--
--   Point, point x y   x and y
--   corners L e        "With anchor (x, y) a triangle of type 0 has corners (x,y), (x+h,y), (x+h,y+h); type 1 has (x,y), (x,y+h),
--                      (x+h,y+h)"; corners_by t h x y: by type, side and anchor
--   corner L e i       corner i of them
--   face_points L e i  "Face i of a triangle (0 to 2) is opposite corner i": the two other corners
--   faces L e          its faces, each opposite a corner
--   face_across i      the number of that face as the neighbour has it
--   InRoot L p         the point p lies in the root, the triangle (0,0), (2^L,0), (2^L,2^L): y <= x <= 2^L
--   OnGrid L e         e passes the checks 1, 2 and 3: level at most L, x and y below 2^L and multiples of the side, type 0 or 1
--   Refusal4 L         4 means on the grid with a corner outside the root: an element is on the grid exactly when its fault is none or 4,
--                      and one on the grid has none, and so is sound, exactly when all its corners lie in the root
--
-- Not here: that the children are Bey's (`index/specs/Bey.antt`). Assumes nothing.
use Rattle.std.specs.Prelude.{◌≡◌, ◌↔◌, ◌⊎◌, List, [], ◌∷◌, ℕ, zero, suc, ◌+◌, ◌-◌, ◌%◌, ◌^◌, ◌≤◌, ◌<◌, get_or}
use Rattle.tree.specs.Anchors.{side}
use Rattle.tree.specs.Laws.{Sound}
use Rattle.triangle.specs.declared.Triangle.{Triangle}
use Rattle.triangle.specs.Elements.{CORNERS, triangle_to}

pub record Point : Type 0 where
  pub x : ℕ
  pub y : ℕ

abbrev pub point : ℕ → ℕ → Point
point x y = record { x = x; y = y }

-- by type: the corners of a triangle with side h at (x, y)
abbrev pub corners_by : ℕ → ℕ → ℕ → ℕ → List Point
corners_by zero h x y = point x y ∷ point (x + h) y ∷ point (x + h) (y + h) ∷ []
corners_by (suc t) h x y = point x y ∷ point x (y + h) ∷ point (x + h) (y + h) ∷ []

abbrev pub corners : ℕ → Triangle → List Point
corners L e = corners_by e.kind (side L e.level) e.x e.y

abbrev pub corner : ℕ → Triangle → ℕ → Point
corner L e i = get_or (corners L e) i (point 0 0)

abbrev pub face_points : ℕ → Triangle → ℕ → List Point
face_points L e zero = corner L e 1 ∷ corner L e 2 ∷ []
face_points L e (suc zero) = corner L e 0 ∷ corner L e 2 ∷ []
face_points L e (suc (suc i)) = corner L e 0 ∷ corner L e 1 ∷ []

abbrev pub faces : ℕ → Triangle → List (List Point)
faces L e =
    (corner L e 1 ∷ corner L e 2 ∷ [])
    ∷ (corner L e 0 ∷ corner L e 2 ∷ [])
    ∷ (corner L e 0 ∷ corner L e 1 ∷ [])
    ∷ []

abbrev pub face_across : ℕ → ℕ
face_across i = 2 - i

pub record InRoot (L : ℕ) (p : Point) : Type 0 where
  pub ordered : p.y ≤ p.x
  pub across : p.x ≤ 2 ^ L

pub record OnGrid (L : ℕ) (e : Triangle) : Type 0 where
  pub shallow : e.level ≤ L
  pub x_below : e.x < 2 ^ L
  pub x_multiple : e.x % side L e.level ≡ 0
  pub y_below : e.y < 2 ^ L
  pub y_multiple : e.y % side L e.level ≡ 0
  pub typed : e.kind ≤ 1

pub record Refusal4 (L : ℕ) : Type 0 where
  pub on_grid : (e : Triangle) → OnGrid L e ↔ (((triangle_to L).fault e ≡ 0) ⊎ ((triangle_to L).fault e ≡ 4))
  pub inside : (e : Triangle) → OnGrid L e → Sound (triangle_to L) e ↔ ((i : ℕ) → i < CORNERS → InRoot L (corner L e i))
