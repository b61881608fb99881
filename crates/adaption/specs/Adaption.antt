-- Document 01, "Leaf lists": "Adaption: one mark a leaf, 0 keep, 1 refine, 2 merge." n is the number of children. Definitions only.
--
--   child, parent    of a leaf, by its position: `Relatives` of `Laws.antt` ties them to the elements
--   children_of v    "A refined leaf gives its eight children."
--   family vs j      the n leaves from number j on "are a family": the children of one leaf, in order
--   merging vs ms j  "Eight consecutive leaves that are a family and all carry 2", from number j on
--   every, joined    of tests and of lists; same u v: the leaves are equal
--   eldest vs i      the number where the family of leaf i begins, if it is one: before leaf i stand its elder siblings (where there are not
--                    so many leaves the difference is 0, and no family begins there to which leaf i belongs)
--   gives vs ms i    what leaf i gives: refined, its children; the first of a merging family, "their parent", the others nothing;
--                    "Any other leaf marked 2 is kept", as is one marked 0
--   adapted vs ms    what the leaves give, in order. "One pass; new leaves aren't looked at again."
--
-- Assumes nothing.
use Rattle.std.specs.Prelude.{Bool, true, cond, ◌&&◌, List, [], ◌∷◌, ◌++◌, ℕ, zero, suc, ◌+◌, ◌-◌, ◌*◌, ◌/◌, ◌%◌, leb, ltb, eqb, length}
use Rattle.paper.specs.Outcome.{rows}
use Rattle.leaves.specs.Leaves.{Leaf, leaf, nth}
use Rattle.marks.specs.Marks.{mark}

-- whether the test passes for every number below k
unfoldable pub every : ℕ → (ℕ → Bool) → Bool
every zero test = true
every (suc k) test = test k && every k test

-- the lists f i, f (i + 1), .. one after the other, k of them
unfoldable pub joined : {A : Type 0} → (ℕ → List A) → ℕ → ℕ → List A
joined f i zero = []
joined f i (suc k) = f i ++ joined f (suc i) k

abbrev pub same : Leaf → Leaf → Bool
same u v = eqb u.root v.root && (eqb u.level v.level && eqb u.position v.position)

module _ (n : ℕ) where
  abbrev pub child : Leaf → ℕ → Leaf
  child v t = leaf v.root (v.level + 1) (n * v.position + t)

  abbrev pub parent : Leaf → Leaf
  parent v = leaf v.root (v.level - 1) (v.position / n)

  abbrev pub children_of : Leaf → List Leaf
  children_of v = rows (child v) 0 n

  abbrev pub family : List Leaf → ℕ → Bool
  family vs j =
      ltb 0 (nth vs j).level
      && (leb (j + n) (length vs)
      && every n (λ t. same (nth vs (j + t)) (child (parent (nth vs j)) t)))

  abbrev pub merging : List Leaf → List ℕ → ℕ → Bool
  merging vs ms j = family vs j && every n (λ t. eqb (mark ms (j + t)) 2)

  abbrev pub eldest : List Leaf → ℕ → ℕ
  eldest vs i = i - (nth vs i).position % n

  abbrev pub gives : List Leaf → List ℕ → ℕ → List Leaf
  gives vs ms i =
      cond (eqb (mark ms i) 1) (children_of (nth vs i))
      (cond (merging vs ms (eldest vs i)) (cond (eqb (eldest vs i) i) (parent (nth vs i) ∷ []) [])
      (nth vs i ∷ []))

  abbrev pub adapted : List Leaf → List ℕ → List Leaf
  adapted vs ms = joined (gives vs ms) 0 (length vs)
