-- When each call on lists and files accepts, and with what: exactly then, and with that. Definitions only.
--
--   Lent m                        the lent columns m are of equal length
--   Starts K l m ws               "Uniform start: K roots, all at one level": 1 to 4,096 roots, a level up to 21, not over 1,048,576 leaves, and lent
--                                 columns of equal length with room for them; and ws are those of `uniform_list`
--   TellsBalance K cs b           the list in the columns cs is valid for K roots, and b is yes exactly when it is balanced
--   Adapts K cs ms m ws           the list is valid; one mark a leaf, none above 2, none 1 on a leaf of level 21; the lent columns are of equal
--                                 length; ws is what the leaves give in one pass, not over 1,048,576 leaves, and there is room for it
--   Divides K P cs ws column bs   the list is valid; 1 to 4,096 shares; one weight a leaf, none 0; the lent column has room for P+1 entries; bs are
--                                 the boundaries
--   Saves K cs bytes file         the list is valid; file is its file; the lent bytes have room for it
--   Loads bytes m g               the lent columns are of equal length; the bytes are a file of the grid g; there is room for its leaves
--   Accepts                       of each call: it accepts exactly then, and with that
--
-- Assumes nothing.
use Rattle.std.specs.Prelude.{◌≡◌, ◌↔◌, Bool, true, List, ℕ, ◌+◌, ◌*◌, ◌^◌, ◌≤◌, ◌<◌, length}
use Rattle.paper.specs.Outcome.{accepted, passed}
use Rattle.tree.specs.Anchors.{HIGHEST}
use Rattle.leaves.specs.Leaves.{CHILDREN, Leaf, Columns, leaves, room, uniform_list}
use Rattle.leaves.specs.Calls.{limit, most, check_list, uniform}
use Rattle.leaves.specs.Laws.{ValidList}
use Rattle.balance.specs.Balance.{Balanced, balanced}
use Rattle.marks.specs.Marks.{mark}
use Rattle.adaption.specs.Adaption.{adapted}
use Rattle.adaption.specs.Calls.{adapt}
use Rattle.adaption.specs.Laws.{Refinable}
use Rattle.shares.specs.Shares.{boundaries}
use Rattle.shares.specs.Calls.{shares}
use Rattle.shares.specs.Laws.{Weighty}
use Rattle.numbers.specs.Laws.{Bytes}
use Rattle.format.specs.File.{file_of}
use Rattle.format.specs.Reading.{Grid}
use Rattle.format.specs.Laws.{FileOf}
use Rattle.writer.specs.Calls.{write}
use Rattle.reader.specs.Calls.{read}

pub record Lent (m : Columns) : Type 0 where
  pub levels_long : length m.roots ≡ length m.levels
  pub positions_long : length m.roots ≡ length m.positions

pub record Starts (K l : ℕ) (m : Columns) (ws : List Leaf) : Type 0 where
  pub some_root : 0 < K
  pub few_roots : K ≤ most
  pub lent : Lent m
  pub shallow : l ≤ HIGHEST
  pub few : K * CHILDREN ^ l ≤ limit
  pub enough : K * CHILDREN ^ l ≤ room m
  pub result : ws ≡ uniform_list CHILDREN HIGHEST K l

pub record TellsBalance (K : ℕ) (cs : Columns) (b : Bool) : Type 0 where
  pub list : ValidList CHILDREN HIGHEST K cs
  pub result : b ≡ true ↔ Balanced (leaves cs)

pub record Adapts (K : ℕ) (cs : Columns) (ms : List ℕ) (m : Columns) (ws : List Leaf) : Type 0 where
  pub list : ValidList CHILDREN HIGHEST K cs
  pub marked : length ms ≡ room cs
  pub lent : Lent m
  pub known : (i : ℕ) → i < length ms → mark ms i ≤ 2
  pub refinable : Refinable CHILDREN HIGHEST (leaves cs) ms
  pub few : length ws ≤ limit
  pub enough : length ws ≤ room m
  pub result : ws ≡ adapted CHILDREN (leaves cs) ms

pub record Divides (K P : ℕ) (cs : Columns) (ws column bs : List ℕ) : Type 0 where
  pub list : ValidList CHILDREN HIGHEST K cs
  pub some_share : 0 < P
  pub few_shares : P ≤ most
  pub weighed : length ws ≡ room cs
  pub weighty : Weighty ws
  pub enough : P + 1 ≤ length column
  pub result : bs ≡ boundaries P ws

pub record Saves (K : ℕ) (cs : Columns) (bytes file : List ℕ) : Type 0 where
  pub list : ValidList CHILDREN HIGHEST K cs
  pub enough : length file ≤ length bytes
  pub result : file ≡ file_of K (leaves cs)

pub record Loads (bytes : List ℕ) (m : Columns) (g : Grid) : Type 0 where
  pub lent : Lent m
  pub enough : length g.leaves ≤ room m
  pub result : FileOf CHILDREN HIGHEST bytes g

pub record Accepts : Type 0 where
  pub check : (K : ℕ) (cs : Columns) → check_list CHILDREN HIGHEST K cs ≡ passed ↔ ValidList CHILDREN HIGHEST K cs
  pub uniform : (K l : ℕ) (m : Columns) (ws : List Leaf) → uniform CHILDREN HIGHEST K l m ≡ accepted ws ↔ Starts K l m ws
  pub balanced : (K : ℕ) (cs : Columns) (b : Bool) → balanced CHILDREN HIGHEST K cs ≡ accepted b ↔ TellsBalance K cs b
  pub adapt : (K : ℕ) (cs : Columns) (ms : List ℕ) (m : Columns) (ws : List Leaf) → adapt CHILDREN HIGHEST K cs ms m ≡ accepted ws ↔ Adapts K cs ms m ws
  pub shares : (K P : ℕ) (cs : Columns) (ws column bs : List ℕ) → shares CHILDREN HIGHEST K P cs ws column ≡ accepted bs ↔ Divides K P cs ws column bs
  pub write : (K : ℕ) (cs : Columns) (bytes file : List ℕ) → write CHILDREN HIGHEST K cs bytes ≡ accepted file ↔ Saves K cs bytes file
  pub read : (bytes : List ℕ) (m : Columns) (g : Grid) → Bytes bytes → read CHILDREN HIGHEST bytes m ≡ accepted g ↔ Loads bytes m g
