-- An order without a fault keeps to its ranges: each field is a number of at most nine digits, and passed its own test. Assumes nothing.
use mathlib.Core.Path.{◌≡◌, refl, subst}
use mathlib.Core.Bool.{false, not}
use mathlib.Core.List.{List}
use Prim.Native.Nat.{ℕ, ◌+◌, ◌-◌, ◌*◌, ◌^◌, ◌≤◌, ◌<◌}
use native.Mathlib.Nat.{le_trans}
use native.Mathlib.Omega.{arith}
use lib.Dec.{eqb, leb, ltb}
use lib.ListN.{length}
use borrow.Author.Tests.{ltb-false, eqb-false, not-false}
use Rattle.paper.specs.Outcome.{accepted, fault_when, scan, rows, passed}
use Rattle.paper.proofs.Scan.{scan_accepted, scan_all, accepted_of}
use Rattle.paper.proofs.Tests.{no_fault, or_none}
use Rattle.leaves.specs.Calls.{limit, out_of_range}
use Rattle.fields.specs.Fields.{fields, is_number}
use Rattle.fields.proofs.Values.{number_below}
use Rattle.fields.proofs.Coming.{closed}
use Rattle.forms.specs.declared.Form.{Form}
use Rattle.forms.specs.Forms.{given, number_in, outside, fault, form_in, read}
use Rattle.forms.proofs.Deciding.{lastly}

pub record Orderly (f : Form) : Type 0 where
  pub short_order : f.order < 10 ^ 9
  pub short_site : f.site < 10 ^ 9
  pub short_model : f.model < 10 ^ 9
  pub some_root : 0 < f.roots
  pub few_roots : f.roots ≤ 4096
  pub shallow : f.level ≤ 21
  pub counted : f.leaves ≡ f.roots * 8 ^ f.level
  pub few_leaves : f.leaves ≤ limit
  pub some_share : 0 < f.shares
  pub few_shares : f.shares ≤ 4096

in_count : (v : ℕ) → fault_when (out_of_range v) 17 0 ≡ 0 → (0 < v) × (v ≤ 4096)
in_count v none =
    let both = or_none (eqb v 0) (ltb 4096 v) (no_fault (out_of_range v) 16 0 none).0 in
    let some = eqb-false v 0 both.0 in
    (omega (arith, some), ltb-false 4096 v both.1)

-- a field without a fault is a number, and not outside its range
pub in_field : (fs : List (List ℕ)) (i : ℕ) → fault fs i ≡ 0
    → (not (is_number (given fs i)) ≡ false) × (outside i (number_in fs i) (number_in fs 4) (number_in fs 5) ≡ 0)
in_field fs i none =
    let range = outside i (number_in fs i) (number_in fs 4) (number_in fs 5) in
    no_fault (not (is_number (given fs i))) 22 range (no_fault (leb (length fs) (i - 1)) 22 _ none).1

pub in_range_lem : (fs : List (List ℕ)) → ((j : ℕ) → 1 ≤ j → j < 8 → fault fs j ≡ 0) → Orderly (form_in fs)
in_range_lem fs sound =
    let four = in_count (number_in fs 4) (in_field fs 4 (sound 4 (omega arith) (omega arith))).1 in
    let five = no_fault (ltb 21 (number_in fs 5)) 0 0 (in_field fs 5 (sound 5 (omega arith) (omega arith))).1 in
    let six = in_count (number_in fs 6) (in_field fs 6 (sound 6 (omega arith) (omega arith))).1 in
    let seven = no_fault (ltb (number_in fs 5) (number_in fs 7)) 22 _ (in_field fs 7 (sound 7 (omega arith) (omega arith))).1 in
    let count = number_in fs 4 * 8 ^ number_in fs 7 in
    record {
      short_order = short 1 (omega arith) (omega arith);
      short_site = short 2 (omega arith) (omega arith);
      short_model = short 3 (omega arith) (omega arith);
      some_root = four.0;
      few_roots = four.1;
      shallow = le_trans (ltb-false (number_in fs 5) (number_in fs 7) seven.0) (ltb-false 21 (number_in fs 5) five.0);
      counted = refl;
      few_leaves = ltb-false limit count (no_fault (ltb limit count) 14 0 seven.1).0;
      some_share = six.0;
      few_shares = six.1;
    }
  where
    short : (i : ℕ) → 1 ≤ i → i < 8 → number_in fs i < 10 ^ 9
    short i low high = number_below (given fs i) (not-false (is_number (given fs i)) (in_field fs i (sound i low high)).0)

-- ---- a form that is accepted
module _ (s : List ℕ) (f : Form) (is : read s ≡ accepted f) where
  pub parts : (scan (fault (fields s)) 1 (rows (λ i. i) 1 7) passed ≡ passed) × (lastly s ≡ accepted f)
  parts = scan_accepted (fault (fields s)) 1 (rows (λ i. i) 1 7) (lastly s) f is

  pub form_clean : (j : ℕ) → 1 ≤ j → j < 8 → fault (fields s) j ≡ 0
  form_clean j low high =
      let same : 1 + (j - 1) ≡ j = omega arith in
      subst (λ (k : ℕ). fault (fields s) k ≡ 0) same (scan_all (fault (fields s)) (λ i. i) 1 7 (j - 1) parts.0 (omega arith))

  pub form_is : form_in (fields s) ≡ f
  form_is = let same = (accepted_of (not (closed s 7)) 23 8 (accepted (form_in (fields s))) f parts.1).1 in cc

  pub form_orderly : Orderly f
  form_orderly = subst Orderly form_is (in_range_lem (fields s) form_clean)
