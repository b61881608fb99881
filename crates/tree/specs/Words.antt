-- Document 01, "Elements": positions, and the words that rest on them, over any shape. Definitions only.
--
--   element_at l p    the element of level l at position p: "the base-8 number of the child numbers from the root down;
--                     base 4 and base 2 for the other shapes"
--   position e        the position of e
--   successor e       "position plus one, same level"
--   first e l, last e l   "First and last descendant at a level no smaller than the element's own": always child 0, always the
--                     last child
--   family es         "yes exactly when the given elements are all children of one parent, in order; any other number of
--                     elements, or none, is no"
--   order e f         "first descendants' positions at level 21, then level"
--
-- Assumes nothing.
use Rattle.std.specs.Prelude.{ℕ, zero, suc, ◌+◌, ◌-◌, ◌*◌, ◌/◌, ◌%◌, Bool, true, false, ◌&&◌, List, [], ◌∷◌, ◌==◌, nat_lt}
use Rattle.paper.specs.Outcome.{Order, less, same, greater}
use Rattle.tree.specs.Shape.{Shape}

abbrev pub pick : Bool → Bool → Order → Order
pick true above rest = less
pick false true rest = greater
pick false false rest = rest

-- by the two numbers, and where they are equal by the rest
abbrev pub compared : ℕ → ℕ → Order → Order
compared a b rest = pick (nat_lt a b) (nat_lt b a) rest

module _ {E : Type 0} (S : Shape E) where
  unfoldable pub element_at : ℕ → ℕ → E
  element_at zero p = S.root
  element_at (suc l) p = S.child (element_at l (p / S.children)) (p % S.children)

  -- the position of e, an element of level l
  unfoldable pub position_at : ℕ → E → ℕ
  position_at zero e = 0
  position_at (suc l) e = S.children * position_at l (S.parent e) + S.number e

  abbrev pub position : E → ℕ
  position e = position_at (S.level e) e

  abbrev pub successor : E → E
  successor e = element_at (S.level e) (position e + 1)

  -- k levels down, always to child i
  unfoldable pub descend : ℕ → ℕ → E → E
  descend i zero e = e
  descend i (suc k) e = S.child (descend i k e) i

  abbrev pub first : E → ℕ → E
  first e l = descend 0 (l - S.level e) e

  abbrev pub last : E → ℕ → E
  last e l = descend (S.children - 1) (l - S.level e) e

  -- the given elements are the children of f from number i to the last
  unfoldable pub are_children : E → ℕ → List E → Bool
  are_children f i [] = i == S.children
  are_children f i (e ∷ es) = S.same (S.child f i) e && are_children f (suc i) es

  unfoldable pub family : List E → Bool
  family [] = false
  family (e ∷ es) = nat_lt 0 (S.level e) && are_children (S.parent e) 0 (e ∷ es)

  unfoldable pub order : E → E → Order
  order e f =
      compared (position (first e S.highest)) (position (first f S.highest))
      (compared (S.level e) (S.level f) same)
