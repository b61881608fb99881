-- What is promised of the order program, as statements. Definitions only.
--
--   Ordered s f    what makes an order line s an order for f: seven fields and one LF, nothing after it; each field is a number;
--                  fields four and six are 1 to 4,096, field five at most 21, field seven not above field five; not more than 1,048,576
--                  leaves; and f has their numbers
--   started f      the uniform start that is ordered
--   SameShares f   `printed` prints the boundaries of all weights 1; on the columns of the uniform start, with these weights and a column
--                  that is long enough, the list's own call for shares accepts with the same boundaries; they are the thesis's formula 27
--   Repeats s f    "The first line repeats fields 1, 2, 3 and 4, then level used, leaf count, field 6": each of these numbers of the
--                  form f, printed, is its field of the input s, byte for byte; the leaf count is the roots times 8^level
--   ReadsBack n    the decimal of n is a number by the paper's rule for a field ("1 to 9 digits without a leading zero, except 0 itself"),
--                  and says n
--   Small f        the numbers of the form f: each in its range, and no boundary past the last leaf
--   Promised       an order is accepted exactly when its line is an order for a form, and with that form; the first 71 bytes decide the
--                  output; an accepted order repeats its fields; its shares are the list's; no output is longer than 86,212 bytes; each
--                  number below 10^9 reads back, and all that an accepted order prints are small
--
-- The numbers printed: those of the first line, a share's number (below `shares`), its first leaf and its number of leaves (a boundary, a
-- difference of two); of a refusal its number and its field (how large these are: `promises/specs/Demand1.antt`).
-- Assumes nothing.
use Rattle.std.specs.Prelude.{◌≡◌, ◌↔◌, true, List, ℕ, ◌+◌, ◌*◌, ◌/◌, ◌^◌, ◌≤◌, ◌<◌, length, take}
use Rattle.paper.specs.Outcome.{accepted}
use Rattle.tree.specs.Anchors.{HIGHEST}
use Rattle.leaves.specs.Leaves.{CHILDREN, Leaf, uniform_list, columns_of}
use Rattle.leaves.specs.Calls.{limit, most}
use Rattle.shares.specs.Shares.{boundary, boundaries}
use Rattle.shares.specs.Calls.{shares}
use Rattle.forms.specs.declared.Form.{Form}
use Rattle.fields.specs.Fields.{fields, ended, is_number, value}
use Rattle.forms.specs.Forms.{given, number_in, form_in, read, longest_input}
use Rattle.text.specs.Text.{decimal, weights, longest_output}
use Rattle.orders.specs.Calls.{output}

pub record Ordered (s : List ℕ) (f : Form) : Type 0 where
  pub seven : length (fields s) ≡ 7
  pub whole : ended s ≡ true
  pub numbers : (i : ℕ) → 1 ≤ i → i ≤ 7 → is_number (given (fields s) i) ≡ true
  pub some_root : 1 ≤ number_in (fields s) 4
  pub few_roots : number_in (fields s) 4 ≤ most
  pub shallow : number_in (fields s) 5 ≤ HIGHEST
  pub some_share : 1 ≤ number_in (fields s) 6
  pub few_shares : number_in (fields s) 6 ≤ most
  pub not_above : number_in (fields s) 7 ≤ number_in (fields s) 5
  pub few_leaves : number_in (fields s) 4 * CHILDREN ^ number_in (fields s) 7 ≤ limit
  pub form : form_in (fields s) ≡ f

abbrev pub started : Form → List Leaf
started f = uniform_list CHILDREN HIGHEST f.roots f.level

pub record SameShares (f : Form) : Type 0 where
  pub leaf_count : f.leaves ≡ length (started f)
  pub call_accepts : (column : List ℕ) → f.shares + 1 ≤ length column
      → shares CHILDREN HIGHEST f.roots f.shares (columns_of (started f)) (weights f) column ≡ accepted (boundaries f.shares (weights f))
  pub formula_27 : (s : ℕ) → s ≤ f.shares → boundary f.shares (weights f) s ≡ s * f.leaves / f.shares

pub record Repeats (s : List ℕ) (f : Form) : Type 0 where
  pub order : decimal f.order ≡ given (fields s) 1
  pub site : decimal f.site ≡ given (fields s) 2
  pub model : decimal f.model ≡ given (fields s) 3
  pub roots : decimal f.roots ≡ given (fields s) 4
  pub level : decimal f.level ≡ given (fields s) 7
  pub leaves : f.leaves ≡ f.roots * CHILDREN ^ f.level
  pub shares : decimal f.shares ≡ given (fields s) 6

pub record ReadsBack (n : ℕ) : Type 0 where
  pub number : is_number (decimal n) ≡ true
  pub says : value (decimal n) ≡ n

pub record Small (f : Form) : Type 0 where
  pub order : f.order < 10 ^ 9
  pub site : f.site < 10 ^ 9
  pub model : f.model < 10 ^ 9
  pub some_root : 1 ≤ f.roots
  pub few_roots : f.roots ≤ most
  pub level : f.level ≤ HIGHEST
  pub some_leaf : 1 ≤ f.leaves
  pub few_leaves : f.leaves ≤ limit
  pub some_share : 1 ≤ f.shares
  pub few_shares : f.shares ≤ most
  pub boundaries : (s : ℕ) → s ≤ f.shares → boundary f.shares (weights f) s ≤ f.leaves

pub record Promised : Type 0 where
  pub accepts : (s : List ℕ) (f : Form) → read s ≡ accepted f ↔ Ordered s f
  pub first_bytes : (s : List ℕ) → output (take longest_input s) ≡ output s
  pub repeats : (s : List ℕ) (f : Form) → read s ≡ accepted f → Repeats s f
  pub same_shares : (s : List ℕ) (f : Form) → read s ≡ accepted f → SameShares f
  pub room : (s : List ℕ) → length (output s) ≤ longest_output
  pub reads_back : (n : ℕ) → n < 10 ^ 9 → ReadsBack n
  pub small : (s : List ℕ) (f : Form) → read s ≡ accepted f → Small f
