-- Document 01, "Leaf lists": leaves, their columns, and what a valid list is. n is the number of children, L the highest level. Definitions only.
--
--   CHILDREN           8: the leaves are prisms, and this is their number of children
--   Leaf               "root, level, position"
--   nth vs j           leaf j of a list
--   Columns            "A list is three columns .. root, level, position": those of a list, or those lent for one
--   leaf_at cs i       the leaf that stands in entry i of the columns
--   leaves cs          all that stand in them
--   columns_of vs      the columns of some leaves
--   equal_columns cs   whether the columns are equally long
--   room cs            how many leaves stand in them, or have room
--   front vs cs        "An accepted call writes its result at the front of the lent columns .., and no further": the columns cs with the leaves vs
--                      at their front
--   first_entries N cs   the first N entries of each column
--   span n L l         how many smallest cells "a leaf of level l holds": n^(L-l)
--   begin, past        the first smallest cell of its root that a leaf holds, and the first after them
--   Spot               where a leaf may start: a root, and a smallest cell of it
--   start_of, end_of   where a leaf starts, and where it ends: "if that is the end of a root, at the start of the next root"
--   Covers c vs K      the leaves start at c, "each later leaf starts where the one before it ended", "and the last ends root K-1"
--                      (that v lies in one of the K roots follows from where the last ends; it is said at each leaf as 12 is)
--   Valid K vs         "valid for K roots when the first leaf starts root 0 .."
--   uniform_list K l   "Uniform start: K roots, all at one level": leaf i is of root i / n^l, at position i % n^l
--
-- Assumes nothing.
use Rattle.std.specs.Prelude.{◌≡◌, Bool, cond, ◌&&◌, List, [], ◌∷◌, map, ℕ, ◌+◌, ◌-◌, ◌*◌, ◌/◌, ◌%◌, ◌^◌, ◌≤◌, ◌<◌, eqb, length, get_or, take}
use Rattle.paper.specs.Outcome.{rows}
use Rattle.paper.specs.Memory.{written}

abbrev pub CHILDREN : ℕ
CHILDREN = 8

pub record Leaf : Type 0 where
  pub root : ℕ
  pub level : ℕ
  pub position : ℕ

abbrev pub leaf : ℕ → ℕ → ℕ → Leaf
leaf r l p = record { root = r; level = l; position = p }

abbrev pub nth : List Leaf → ℕ → Leaf
nth vs j = get_or vs j (leaf 0 0 0)

-- ---- columns
pub record Columns : Type 0 where
  pub roots : List ℕ
  pub levels : List ℕ
  pub positions : List ℕ

abbrev pub columns : List ℕ → List ℕ → List ℕ → Columns
columns rs ls ps = record { roots = rs; levels = ls; positions = ps }

abbrev pub leaf_at : Columns → ℕ → Leaf
leaf_at cs i = leaf (get_or cs.roots i 0) (get_or cs.levels i 0) (get_or cs.positions i 0)

abbrev pub room : Columns → ℕ
room cs = length cs.roots

abbrev pub leaves : Columns → List Leaf
leaves cs = rows (leaf_at cs) 0 (room cs)

abbrev pub columns_of : List Leaf → Columns
columns_of vs =
    columns (map (λ (v : Leaf). v.root) vs) (map (λ (v : Leaf). v.level) vs) (map (λ (v : Leaf). v.position) vs)

abbrev pub equal_columns : Columns → Bool
equal_columns cs = eqb (length cs.roots) (length cs.levels) && eqb (length cs.roots) (length cs.positions)

abbrev pub front : List Leaf → Columns → Columns
front vs cs =
    columns
    (written (columns_of vs).roots cs.roots)
    (written (columns_of vs).levels cs.levels)
    (written (columns_of vs).positions cs.positions)

abbrev pub first_entries : ℕ → Columns → Columns
first_entries N cs = columns (take N cs.roots) (take N cs.levels) (take N cs.positions)

-- ---- valid lists
pub record Spot : Type 0 where
  pub root : ℕ
  pub cell : ℕ

abbrev pub spot_at : ℕ → ℕ → Spot
spot_at r q = record { root = r; cell = q }

module _ (n L : ℕ) where
  abbrev pub span : ℕ → ℕ
  span l = n ^ (L - l)

  abbrev pub begin : Leaf → ℕ
  begin v = v.position * span v.level

  abbrev pub past : Leaf → ℕ
  past v = (v.position + 1) * span v.level

  abbrev pub start_of : Leaf → Spot
  start_of v = spot_at v.root (begin v)

  abbrev pub end_of : Leaf → Spot
  end_of v = cond (eqb (past v) (n ^ L)) (spot_at (v.root + 1) 0) (spot_at v.root (past v))

  unfoldable pub Covers : Spot → List Leaf → ℕ → Type 0
  Covers c [] K = c ≡ spot_at K 0
  Covers c (v ∷ vs) K =
      (v.level ≤ L) × (v.position < n ^ v.level) × (start_of v ≡ c) × (v.root < K) × Covers (end_of v) vs K

  abbrev pub Valid : ℕ → List Leaf → Type 0
  Valid K vs = Covers (spot_at 0 0) vs K

  abbrev pub uniform_list : ℕ → ℕ → List Leaf
  uniform_list K l = rows (λ i. leaf (i / n ^ l) l (i % n ^ l)) 0 (K * n ^ l)
