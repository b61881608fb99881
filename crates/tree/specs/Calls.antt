-- Document 01, "Refusal numbers": the ten calls on elements, over any shape; each test in the order of the paper. Definitions only.
--
--   "Checks on an element: 1, 2, 3, 4, then the call's own. Several elements (family, order of two) are checked in turn,
--   place = index; unequal columns give 11 first. Position calls: 1, 5. Descendants: element, 1, 6. Children: element, 7, 8."
--   1 level above the highest; 5 position not below children^level; 6 parent of level 0, descendant level smaller than the
--   element's own; 7 child of the highest level; 8 child or face number too large; 9 successor of the last; 10 neighbour
--   outside the root; 11 columns unequal.
--
-- Assumes nothing.
use Rattle.std.specs.Prelude.{ℕ, ◌+◌, ◌^◌, Bool, not, List, [], ◌∷◌, ◌==◌, nat_le, nat_lt}
use Rattle.paper.specs.Outcome.{Outcome, accepted, Order, refuse_when, scan}
use Rattle.tree.specs.Shape.{Shape}
use Rattle.tree.specs.Words

module _ {E : Type 0} (S : Shape E) where
  -- the checks on one element, then the rest
  abbrev pub checked : {A : Type 0} → E → Outcome A → Outcome A
  checked e rest = refuse_when (not (S.fault e == 0)) (S.fault e) rest

  abbrev pub at : ℕ → ℕ → Outcome E
  at l p =
      refuse_when (nat_lt S.highest l) 1
      (refuse_when (nat_le (S.children ^ l) p) 5
      (accepted (Words.element_at S l p)))

  abbrev pub position : E → Outcome ℕ
  position e = checked e (accepted (Words.position S e))

  abbrev pub parent : E → Outcome E
  parent e =
      checked e
      (refuse_when (S.level e == 0) 6
      (accepted (S.parent e)))

  abbrev pub child : E → ℕ → Outcome E
  child e i =
      checked e
      (refuse_when (nat_le S.highest (S.level e)) 7
      (refuse_when (nat_le S.children i) 8
      (accepted (S.child e i))))

  abbrev pub successor : E → Outcome E
  successor e =
      checked e
      (refuse_when (Words.position S e + 1 == S.children ^ S.level e) 9
      (accepted (Words.successor S e)))

  -- what first and last descendant have in common: the tests
  abbrev pub descendant : (E → ℕ → E) → E → ℕ → Outcome E
  descendant which e l =
      checked e
      (refuse_when (nat_lt S.highest l) 1
      (refuse_when (nat_lt l (S.level e)) 6
      (accepted (which e l))))

  abbrev pub first : E → ℕ → Outcome E
  first = descendant (Words.first S)

  abbrev pub last : E → ℕ → Outcome E
  last = descendant (Words.last S)

  abbrev pub neighbour : E → ℕ → Outcome E
  neighbour e i =
      checked e
      (refuse_when (nat_le S.faces i) 8
      (S.neighbour e i))

  -- of lent columns: whether they are equally long, and their elements
  abbrev pub family : Bool → List E → Outcome Bool
  family equal es = refuse_when (not equal) 11 (scan S.fault 0 es (accepted (Words.family S es)))

  abbrev pub order : E → E → Outcome Order
  order e f = scan S.fault 0 (e ∷ f ∷ []) (accepted (Words.order S e f))
