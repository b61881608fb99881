-- Document 01, "Leaf lists": smallest cells as elements, over any shape. Definitions only.
--
--   "A smallest cell is a prism of level 21. It lies in itself and in each prism reached from it by taking parents"
--
--   element_of S v    the element that a leaf is
--   Proper S v        the leaf is of a level and at a position that the shape has
--   InLeaf S v r e    the element e of root r lies in the leaf v
--   OneLeaf           it lies in exactly one leaf of a list
--   CellsOnce S K vs  each smallest cell of each of the K roots does
--   Earlier S u v     the leaf u comes before v: by root, and within a root by the order of two elements
--   CellLaws S        in a valid list each smallest cell lies in exactly one leaf, and the leaves stand along the curve, each
--                     before all later ones; "a leaf of level l holds 8^(21-l)" smallest cells, counted; and an element of the
--                     leaf's level or below lies in it exactly when its position, divided by how many of its level the leaf holds, is the leaf's
--
-- Not here: one element in another (`LiesIn` of `tree/specs/Ancestors.antt`). Assumes nothing.
use Rattle.std.specs.Prelude.{◌≡◌, ◌↔◌, ◌⊎◌, List, ℕ, ◌^◌, ◌≤◌, ◌<◌, length}
use Rattle.paper.specs.Outcome.{less}
use Rattle.paper.specs.Exactly.{ExactlyOne, Exactly}
use Rattle.tree.specs.Shape.{Shape}
use Rattle.tree.specs.Laws.{Sound}
use Rattle.tree.specs.Ancestors.{LiesIn}
use Rattle.tree.specs.Descendants.{Descends}
use Rattle.tree.specs.Words as words
use Rattle.leaves.specs.Leaves.{Leaf, nth, span, Valid}
use Rattle.leaves.specs.Laws.{Holds}

module _ {E : Type 0} (S : Shape E) where
  abbrev pub element_of : Leaf → E
  element_of v = words.element_at S v.level v.position

  pub record Proper (v : Leaf) : Type 0 where
    pub level : v.level ≤ S.highest
    pub position : v.position < S.children ^ v.level

  pub record InLeaf (v : Leaf) (r : ℕ) (e : E) : Type 0 where
    pub root : v.root ≡ r
    pub lies : LiesIn S e (element_of v)

  abbrev pub OneLeaf : List Leaf → ℕ → E → Type 0
  OneLeaf vs r e = ExactlyOne (length vs) (λ j. InLeaf (nth vs j) r e)

  abbrev pub CellsOnce : ℕ → List Leaf → Type 0
  CellsOnce K vs = (r : ℕ) (e : E) → r < K → Sound S e → S.level e ≡ S.highest → OneLeaf vs r e

  abbrev pub Earlier : Leaf → Leaf → Type 0
  Earlier u v = (u.root < v.root) ⊎ ((u.root ≡ v.root) × (words.order S (element_of u) (element_of v) ≡ less))

  pub record CellLaws : Type 0 where
    pub once : (K : ℕ) (vs : List Leaf) → Valid S.children S.highest K vs → CellsOnce K vs
    pub along : (K : ℕ) (vs : List Leaf) → Valid S.children S.highest K vs
        → (i j : ℕ) → i < j → j < length vs → Earlier (nth vs i) (nth vs j)
    pub many : (v : Leaf) → Proper v → Exactly (span S.children S.highest v.level) (Descends S (element_of v) S.highest)
    pub by_position : (v : Leaf) (r : ℕ) (e : E) → Proper v → Sound S e → v.level ≤ S.level e
        → InLeaf v r e ↔ Holds S.children (S.level e) v r (words.position S e)
