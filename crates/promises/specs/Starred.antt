-- Document 01, "Marked examples": the starred cases as one table, line by line. H = 1,048,576, G = 524,288; prisms as (x, y, z, type).
-- Definitions only; `proofs/Starred.antt` proves AllHold starred.
--
--   Case, call gives answer   a case: what a call's definition gives, and what the paper says it is
--   starred             the table
--   AllHold             every case of a table holds
--
-- Assumes nothing.
use Rattle.std.specs.Prelude.{◌≡◌, List, [], ◌∷◌, ◌++◌, ℕ, replicate}
use Rattle.paper.specs.Outcome.{Outcome, accepted, refused}
use Rattle.tree.specs.Anchors.{HIGHEST}
use Rattle.prism.specs.declared.Prism.{Prism}
use Rattle.prism.specs.Elements.{prism}
use Rattle.leaves.specs.Leaves.{CHILDREN, Leaf, Columns, columns, columns_of}
use Rattle.leaves.specs.Calls.{uniform}
use Rattle.columns.specs.Laying.{stretch}
use Rattle.adaption.specs.Calls.{adapt}
use Rattle.shares.specs.Calls.{shares}
use Rattle.writer.specs.Calls.{write}
use Rattle.reader.specs.Calls.{read}
use Rattle.tree.specs.Calls as calls

infix 70 ◌gives◌
pub data Case : Type 1 where
  ◌gives◌ : {A : Type 0} → Outcome A → Outcome A → Case

abbrev pub AllHold : List Case → Type 0
AllHold [] = Unit {0}
AllHold ((call gives said) ∷ cases) = (call ≡ said) × AllHold cases

abbrev H : ℕ
H = 1048576

abbrev G : ℕ
G = 524288

-- level l, (x, y, z, type)
abbrev is : ℕ → ℕ → ℕ → ℕ → ℕ → Prism
is l x y z t = record { x = x; y = y; z = z; level = l; kind = t }

-- the leaves of root 0 that a file's runs stand for: level 1 from position 0 to 7; and with leaf 2 refined
abbrev level1 : List Leaf
level1 = stretch 0 1 0 8

abbrev refined2 : List Leaf
refined2 = stretch 0 1 0 2 ++ stretch 0 2 16 8 ++ stretch 0 1 3 5

-- the marks: leaf 2 alone refined; all fifteen to merge
abbrev refine2 : List ℕ
refine2 = 0 ∷ 0 ∷ 1 ∷ 0 ∷ 0 ∷ 0 ∷ 0 ∷ 0 ∷ []

abbrev merge15 : List ℕ
merge15 = replicate 15 2

-- the two files, in hexadecimal 50 47 52 31 01 ..
abbrev first : List ℕ
first = 80 ∷ 71 ∷ 82 ∷ 49 ∷ 1 ∷ 1 ∷ 1 ∷ 8 ∷ []

abbrev second : List ℕ
second = 80 ∷ 71 ∷ 82 ∷ 49 ∷ 1 ∷ 3 ∷ 1 ∷ 2 ∷ 2 ∷ 8 ∷ 1 ∷ 5 ∷ []

-- columns lent for so many leaves
abbrev lent : ℕ → Columns
lent k = columns (replicate k 0) (replicate k 0) (replicate k 0)

unfoldable pub starred : List Case
starred =
    -- Level 0, position 0: (0,0,0,0); position 1: refused 5.
    calls.at prism 0 0 gives accepted (is 0 0 0 0 0)
    ∷ calls.at prism 0 1 gives refused 5 0
    -- Level 1, position 6: (H,0,H,1). Its child 1 at level 2: (H,G,H,0), position 49.
    ∷ calls.at prism 1 6 gives accepted (is 1 H 0 H 1)
    ∷ calls.child prism (is 1 H 0 H 1) 1 gives accepted (is 2 H G H 0)
    ∷ calls.position prism (is 2 H G H 0) gives accepted 49
    -- Level 2, position 17: (H,G,0,0); position 18: (H,G,0,1).
    ∷ calls.at prism 2 17 gives accepted (is 2 H G 0 0)
    ∷ calls.at prism 2 18 gives accepted (is 2 H G 0 1)
    -- Level 1, (0,0,0,1): refused 4; (G,0,0,0): refused 2.
    ∷ calls.position prism (is 1 0 0 0 1) gives refused 4 0
    ∷ calls.position prism (is 1 G 0 0 0) gives refused 2 0
    -- Level 1, (H,0,0,1), face 0: (H,H,0,0); face 2: (0,0,0,0); face 3: refused 10.
    ∷ calls.neighbour prism (is 1 H 0 0 1) 0 gives accepted (is 1 H H 0 0)
    ∷ calls.neighbour prism (is 1 H 0 0 1) 2 gives accepted (is 1 0 0 0 0)
    ∷ calls.neighbour prism (is 1 H 0 0 1) 3 gives refused 10 0
    -- Level 1, position 7: successor refused 9; level 0: parent refused 6.
    ∷ calls.at prism 1 7 gives accepted (is 1 H H H 0)
    ∷ calls.successor prism (is 1 H H H 0) gives refused 9 0
    ∷ calls.parent prism (is 0 0 0 0 0) gives refused 6 0
    -- Uniform K=1, level 1: file 50 47 52 31 01 01 01 08. Refining leaf 2: 50 47 52 31 01 03 01 02 02 08 01 05. All marked 2 next: the first
    -- file again.
    ∷ uniform CHILDREN HIGHEST 1 1 (lent 8) gives accepted level1
    ∷ write CHILDREN HIGHEST 1 (columns_of level1) (replicate 8 0) gives accepted first
    ∷ adapt CHILDREN HIGHEST 1 (columns_of level1) refine2 (lent 15) gives accepted refined2
    ∷ write CHILDREN HIGHEST 1 (columns_of refined2) (replicate 12 0) gives accepted second
    ∷ adapt CHILDREN HIGHEST 1 (columns_of refined2) merge15 (lent 8) gives accepted level1
    ∷ read CHILDREN HIGHEST first (lent 8) gives accepted (record { roots = 1; leaves = level1 })
    ∷ read CHILDREN HIGHEST second (lent 15) gives accepted (record { roots = 1; leaves = refined2 })
    -- Weights 1, 1, 1, 5 on four roots, P=2: boundaries 0, 3, 4.
    ∷ shares CHILDREN HIGHEST 4 2 (columns (0 ∷ 1 ∷ 2 ∷ 3 ∷ []) (replicate 4 0) (replicate 4 0)) (1 ∷ 1 ∷ 1 ∷ 5 ∷ []) (replicate 3 0)
    gives accepted (0 ∷ 3 ∷ 4 ∷ [])
    ∷ []
