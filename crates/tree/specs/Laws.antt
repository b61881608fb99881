-- What is promised of the elements of every shape, as statements; `proofs/` proves them from what each shape shows of itself
-- (`Lawful`), over the number of children and the highest level. Definitions only.
--
--   Sound e        e is sound, a valid element: it passes the checks on an element
--   Lawful         what a shape shows of its own tables: one step down and one step up undo each other, among sound elements
--   children_of f  the children of f, in order
--   OfLevel f l    f is a sound element of level l
--   Positions      the positions of parent, child, successor, first and last descendant; the successor is sound and of "same level" (of the others
--                  `Lawful` and `Descendants` say it)
--   TotalOrder     the order of two is a total order
--   Across e f i j   face i of e is face j of the other element f: they have the same corner points
--   Faces          a face neighbour lies across: it is another valid element of the level and shares that whole face; whoever of its level
--                  has the face as one of its own is the neighbour, so refused 10 means that nobody of that level does; its neighbour across
--                  its own face is the element again. `points` gives the corner points of a face, `face_across` its number as the neighbour has it
--   Families       family is yes exactly for the children of one parent, in order
--   Constants      CORNERS and FACES count the paper's own lists: the corners that it lists are those with a number below CORNERS, all
--                  different, and so with the faces
--
-- Assumes nothing.
use Rattle.std.specs.Prelude.{◌≡◌, ℕ, suc, ◌+◌, ◌-◌, ◌*◌, ◌/◌, ◌^◌, ◌<◌, ◌≤◌, true, ◌⊎◌, ◌↔◌, List}
use mathlib.Core.List.{Mem, Memᴰ, Nodup}
use Rattle.paper.specs.Outcome.{accepted, refused, less, same, greater, rows}
use Rattle.tree.specs.Shape.{Shape}
use Rattle.tree.specs.Words.{position, successor, first, last, family, order}

module _ {E : Type 0} (S : Shape E) where
  abbrev pub Sound : E → Type 0
  Sound e = S.fault e ≡ 0

  abbrev pub children_of : E → List E
  children_of f = rows (S.child f) 0 S.children

  pub record Lawful : Type 0 where
    pub several : 1 < S.children
    pub root_sound : Sound S.root
    pub root_level : S.level S.root ≡ 0
    pub root_only : (e : E) → Sound e → S.level e ≡ 0 → e ≡ S.root
    pub shallow : (e : E) → Sound e → S.level e ≤ S.highest
    pub child_sound : (e : E) (i : ℕ) → Sound e → S.level e < S.highest → i < S.children → Sound (S.child e i)
    pub child_level : (e : E) (i : ℕ) → S.level (S.child e i) ≡ suc (S.level e)
    pub parent_sound : (e : E) → Sound e → 0 < S.level e → Sound (S.parent e)
    pub parent_level : (e : E) → 0 < S.level e → suc (S.level (S.parent e)) ≡ S.level e
    pub number_lt : (e : E) → Sound e → 0 < S.level e → S.number e < S.children
    pub parent_child : (e : E) (i : ℕ) → Sound e → S.level e < S.highest → i < S.children → S.parent (S.child e i) ≡ e
    pub number_child : (e : E) (i : ℕ) → Sound e → S.level e < S.highest → i < S.children → S.number (S.child e i) ≡ i
    pub child_parent : (e : E) → Sound e → 0 < S.level e → S.child (S.parent e) (S.number e) ≡ e
    pub same_refl : (e : E) → S.same e e ≡ true
    pub same_eq : (e f : E) → S.same e f ≡ true → e ≡ f

  -- f is a valid element of level l
  pub record OfLevel (f : E) (l : ℕ) : Type 0 where
    pub sound : Sound f
    pub level : S.level f ≡ l

  pub record Positions : Type 0 where
    pub of_parent : (e : E) → Sound e → 0 < S.level e → position S (S.parent e) ≡ position S e / S.children
    pub of_child : (e : E) (i : ℕ) → Sound e → S.level e < S.highest → i < S.children
        → position S (S.child e i) ≡ S.children * position S e + i
    pub of_successor : (e : E) → Sound e → position S e + 1 < S.children ^ S.level e
        → OfLevel (successor S e) (S.level e) × (position S (successor S e) ≡ position S e + 1)
    pub of_first : (e : E) (l : ℕ) → Sound e → S.level e ≤ l → l ≤ S.highest
        → position S (first S e l) ≡ position S e * S.children ^ (l - S.level e)
    pub of_last : (e : E) (l : ℕ) → Sound e → S.level e ≤ l → l ≤ S.highest
        → position S (last S e l) ≡ (position S e + 1) * S.children ^ (l - S.level e) - 1

  pub record TotalOrder : Type 0 where
    pub itself : (e : E) → order S e e ≡ same
    pub identical : (e f : E) → Sound e → Sound f → order S e f ≡ same → e ≡ f
    pub turned : (e f : E) → order S e f ≡ less ↔ order S f e ≡ greater
    pub carried : (e f g : E) → order S e f ≡ less → order S f g ≡ less → order S e g ≡ less

  pub record Families : Type 0 where
    pub of_children : (f : E) → Sound f → S.level f < S.highest → family S (children_of f) ≡ true
    pub only_children : (es : List E) → ((e : E) → Memᴰ e es → Sound e) → family S es ≡ true
        → (f : E) × (Sound f × S.level f < S.highest × es ≡ children_of f)

  module _ {P : Type 0} (points : E → ℕ → List P) where
    -- face i of e is face j of the other element f
    pub record Across (e f : E) (i j : ℕ) : Type 0 where
      pub sound : Sound f
      pub level : S.level f ≡ S.level e
      pub face : j < S.faces
      pub shared : (p : P) → Mem p (points e i) ↔ Mem p (points f j)
      pub other : e ≡ f → ⊥

    pub record Faces (face_across : ℕ → ℕ) : Type 0 where
      pub either : (e : E) (i : ℕ) → (S.neighbour e i ≡ refused 10 0) ⊎ ((f : E) × (S.neighbour e i ≡ accepted f))
      pub across : (e f : E) (i : ℕ) → Sound e → i < S.faces → S.neighbour e i ≡ accepted f → Across e f i (face_across i)
      pub back : (e f : E) (i : ℕ) → Sound e → i < S.faces → S.neighbour e i ≡ accepted f → S.neighbour f (face_across i) ≡ accepted e
      pub only : (e f : E) (i j : ℕ) → Sound e → i < S.faces → Across e f i j → (S.neighbour e i ≡ accepted f) × (j ≡ face_across i)

  pub record Constants {P : Type 0} (corner : E → ℕ → P) (corners : E → List P) (points : E → ℕ → List P) (faces : E → List (List P)) : Type 0 where
    pub corners_are : (e : E) → corners e ≡ rows (corner e) 0 S.corners
    pub corners_apart : (e : E) → Nodup (corners e)
    pub faces_are : (e : E) → faces e ≡ rows (points e) 0 S.faces
    pub faces_apart : (e : E) → Nodup (faces e)
