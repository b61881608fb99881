-- What is promised of adaption, as statements, over the number of children and the highest level. Definitions only.
--
--   Merging vs ms j   "Eight consecutive leaves that are a family and all carry 2", as a statement; `merging` is the test
--   OnePass vs ms     which leaves are refined, which merge, which are kept, and what each gives; `adapted` is what they give, in order
--   Refinable vs ms   no leaf of the highest level is marked 1
--   Marked            the marks of N leaves are m for the k leaves from number i on, and 0 for the others
--   Step, Steps K s vs ws   an accepted adaption of the list vs: the leaves that it gives; s of them, one after the other, from vs to ws
--   Promised          the pass is `OnePass`; a valid list stays valid; marks 0 change nothing; a leaf refined alone and its children merged next
--                     give the list again
--   Siblings S vs j   the leaves from number j on, as many as an element has children, are of one root, and their elements are a family: "yes
--                     exactly when the given elements are all children of one parent, in order"
--   Relatives S       a leaf's children and its parent are the element's, and leaves are a family here exactly when they are siblings there
--
-- Assumes nothing.
use Rattle.std.specs.Prelude.{◌≡◌, ◌↔◌, true, List, [], ◌∷◌, ℕ, zero, suc, ◌+◌, ◌≤◌, ◌<◌, length}
use Rattle.paper.specs.Outcome.{accepted, rows}
use Rattle.tree.specs.Shape.{Shape}
use Rattle.tree.specs.Words as words
use Rattle.leaves.specs.Leaves.{Leaf, nth, Columns, columns_of, Valid}
use Rattle.leaves.specs.Cells.{element_of, Proper}
use Rattle.marks.specs.Marks.{mark}
use Rattle.adaption.specs.Adaption.{child, parent, children_of, family, merging, gives, adapted}
use Rattle.adaption.specs.Calls.{adapt}

pub record Marked (ms : List ℕ) (m i k N : ℕ) : Type 0 where
  pub there : (j : ℕ) → j < N → i ≤ j → j < i + k → mark ms j ≡ m
  pub before : (j : ℕ) → j < N → j < i → mark ms j ≡ 0
  pub after : (j : ℕ) → j < N → i + k ≤ j → mark ms j ≡ 0

module _ (n : ℕ) where
  pub record Merging (vs : List Leaf) (ms : List ℕ) (j : ℕ) : Type 0 where
    pub deep : 0 < (nth vs j).level
    pub inside : j + n ≤ length vs
    pub sibling : (t : ℕ) → t < n → nth vs (j + t) ≡ child n (parent n (nth vs j)) t
    pub carries : (t : ℕ) → t < n → mark ms (j + t) ≡ 2

  pub record OnePass (vs : List Leaf) (ms : List ℕ) : Type 0 where
    pub exactly : (j : ℕ) → merging n vs ms j ≡ true ↔ Merging vs ms j
    pub refined : (i : ℕ) → mark ms i ≡ 1 → gives n vs ms i ≡ children_of n (nth vs i)
    pub merged : (j : ℕ) → Merging vs ms j → gives n vs ms j ≡ parent n (nth vs j) ∷ []
    pub merged_too : (j t : ℕ) → Merging vs ms j → 0 < t → t < n → gives n vs ms (j + t) ≡ []
    pub kept : (i : ℕ) → (mark ms i ≡ 1 → ⊥) → ((j : ℕ) → j ≤ i → i < j + n → Merging vs ms j → ⊥) → gives n vs ms i ≡ nth vs i ∷ []

  module _ (L : ℕ) where
    abbrev pub Refinable : List Leaf → List ℕ → Type 0
    Refinable vs ms = (i : ℕ) → i < length vs → mark ms i ≡ 1 → (nth vs i).level < L

    pub record Step (K : ℕ) (vs ws : List Leaf) : Type 0 where
      pub marks : List ℕ
      pub lent : Columns
      pub accepts : adapt n L K (columns_of vs) marks lent ≡ accepted ws

    unfoldable pub Steps : ℕ → ℕ → List Leaf → List Leaf → Type 0
    Steps K zero vs ws = vs ≡ ws
    Steps K (suc s) vs ws = (us : List Leaf) × (Steps K s vs us × Step K us ws)

    pub record Promised : Type 0 where
      pub one_pass : (vs : List Leaf) (ms : List ℕ) → OnePass vs ms
      pub valid : (K : ℕ) (vs : List Leaf) (ms : List ℕ) → Valid n L K vs → Refinable vs ms → Valid n L K (adapted n vs ms)
      pub unmarked : (vs : List Leaf) (ms : List ℕ) → ((i : ℕ) → i < length vs → mark ms i ≡ 0) → adapted n vs ms ≡ vs
      pub undone : (vs : List Leaf) (ms ms' : List ℕ) (i : ℕ) → i < length vs → Marked ms 1 i 1 (length vs)
          → Marked ms' 2 i n (length (adapted n vs ms)) → adapted n (adapted n vs ms) ms' ≡ vs

module _ {E : Type 0} (S : Shape E) where
  pub record Siblings (vs : List Leaf) (j : ℕ) : Type 0 where
    pub inside : j + S.children ≤ length vs
    pub one_root : (t : ℕ) → t < S.children → (nth vs (j + t)).root ≡ (nth vs j).root
    pub siblings : words.family S (rows (λ t. element_of S (nth vs (j + t))) 0 S.children) ≡ true

  pub record Relatives : Type 0 where
    pub children : (v : Leaf) (t : ℕ) → t < S.children → element_of S (child S.children v t) ≡ S.child (element_of S v) t
    pub parents : (v : Leaf) → Proper S v → 0 < v.level → element_of S (parent S.children v) ≡ S.parent (element_of S v)
    pub families : (vs : List Leaf) (j : ℕ) → ((i : ℕ) → i < length vs → Proper S (nth vs i)) → family S.children vs j ≡ true ↔ Siblings vs j
