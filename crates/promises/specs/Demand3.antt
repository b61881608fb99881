-- The order's third demand: "Take any valid grid, loaded or reached by accepted adaptions from a uniform start, any weights from 1 to 65,535
-- on its prisms, and 1 to 4,096 machines. Each smallest cell of each root prism lies in exactly one listed prism, and that prism in exactly
-- one machine's share. Shares run along the curve without gaps. The number of machines times a share's weight differs from the whole weight
-- by strictly less than the number of machines times the heaviest prism's weight." Definitions only.
--
--   Begun K vs     where a grid of K roots may begin: an accepted uniform start, or a file that was read
--   Reached K vs   it begins so, and accepted adaptions lead to vs, one after the other
--   Owner          a smallest cell lies in exactly one listed prism, and that prism in exactly one share
--   Divided        the grid vs of K roots, with the weights ws, among P machines: each cell has its owner; the leaves stand along the curve, each
--                  before all later ones; the shares run from no leaf to all without gaps, and both bounds are strict (`Fair`); every leaf of
--                  an earlier share comes before every leaf of a later one
--   OfGrids        demand 3: of any valid grid, of any that is reached, and of what any accepted call of shares answers
--
-- Not here: what stands in the lent memory then (`InMemory.antt`). Assumes nothing.
use Rattle.std.specs.Prelude.{◌≡◌, List, ℕ, ◌<◌, length}
use Rattle.paper.specs.Outcome.{accepted}
use Rattle.tree.specs.Anchors.{HIGHEST}
use Rattle.tree.specs.Laws.{Sound}
use Rattle.prism.specs.declared.Prism.{Prism}
use Rattle.prism.specs.Elements.{prism}
use Rattle.leaves.specs.Leaves.{CHILDREN, Leaf, nth, Columns, leaves, Valid}
use Rattle.leaves.specs.Calls.{uniform}
use Rattle.leaves.specs.Cells.{OneLeaf, Earlier}
use Rattle.adaption.specs.Laws.{Steps}
use Rattle.shares.specs.Shares.{boundaries}
use Rattle.shares.specs.Calls.{shares}
use Rattle.shares.specs.Laws.{InShare, OneShare, Fair, Weighty}
use Rattle.reader.specs.Calls.{read}

pub data Begun (K : ℕ) (vs : List Leaf) : Type 0 where
  started : (level : ℕ) (lent : Columns) → uniform CHILDREN HIGHEST K level lent ≡ accepted vs → Begun K vs
  loaded : (bytes : List ℕ) (lent : Columns) → read CHILDREN HIGHEST bytes lent ≡ accepted (record { roots = K; leaves = vs }) → Begun K vs

pub record Reached (K : ℕ) (vs : List Leaf) : Type 0 where
  pub beginning : List Leaf
  pub begun : Begun K beginning
  pub adaptions : ℕ
  pub steps : Steps CHILDREN HIGHEST K adaptions beginning vs

pub record Owner (P : ℕ) (vs : List Leaf) (ws : List ℕ) (r : ℕ) (cell : Prism) : Type 0 where
  pub listed : OneLeaf prism vs r cell
  pub shared : OneShare P ws listed.which

pub record Divided (K P : ℕ) (vs : List Leaf) (ws : List ℕ) : Type 0 where
  pub owner : (r : ℕ) (cell : Prism) → r < K → Sound prism cell → cell.level ≡ HIGHEST → Owner P vs ws r cell
  pub along : (i j : ℕ) → i < j → j < length vs → Earlier prism (nth vs i) (nth vs j)
  pub weighed : length ws ≡ length vs
  pub fair : Fair P ws
  pub shares_along : (s t i j : ℕ) → s < t → t < P → InShare P ws s i → InShare P ws t j → Earlier prism (nth vs i) (nth vs j)

pub record OfGrids : Type 0 where
  pub of_valid : (K P : ℕ) (vs : List Leaf) (ws : List ℕ) → 0 < K → Valid CHILDREN HIGHEST K vs → length ws ≡ length vs → Weighty ws → 0 < P
      → Divided K P vs ws
  pub of_reached : (K P : ℕ) (vs : List Leaf) (ws : List ℕ) → Reached K vs → length ws ≡ length vs → Weighty ws → 0 < P → Divided K P vs ws
  pub of_accepted : (K P : ℕ) (cs : Columns) (ws column bs : List ℕ) → shares CHILDREN HIGHEST K P cs ws column ≡ accepted bs
      → (bs ≡ boundaries P ws) × Divided K P (leaves cs) ws
