-- A list call, test by test: which of its tests refuses, and what is known once they have passed. Assumes nothing.
use mathlib.Core.Path.{◌≡◌, ap, ◌∙◌}
use mathlib.Core.Bool.{Bool, true, false, not, ◌&&◌, ◌||◌, and-eq-true_iff}
use Prim.Native.Nat.{ℕ, ◌≤◌, ◌<◌}
use native.Mathlib.Omega.{arith}
use lib.Dec.{ltb, eqb}
use lib.ListN.{length}
use borrow.Author.Tests.{ltb-false, eqb-true, eqb-false, not-false, le-ltb, eq-eqb, ne_eqb}
use Rattle.std.proofs.Math.Nat.{pos_of_ne-zero}
use Rattle.paper.specs.Outcome.{Outcome, accepted, refused, passed}
use Rattle.paper.specs.Memory.{room_for}
use Rattle.paper.proofs.Tests.{passed_by, or_none}
use Rattle.paper.proofs.Scan.{accepted_of, accepted_by, carry}
use Rattle.leaves.specs.Leaves.{Columns, leaves, room, equal_columns, spot_at}
use Rattle.leaves.specs.Calls.{limit, most, out_of_range, walked, listed, check_list}
use Rattle.leaves.specs.Laws.{ValidList}
use Rattle.leaves.proofs.Check.{exactly, walked_passed, walked_accepted, walked_refused}

-- "1 to 4,096"
pub in_range_lem : (K : ℕ) → out_of_range K ≡ false → (0 < K) × (K ≤ most)
in_range_lem K right =
    let range = or_none (eqb K 0) (ltb most K) right in
    (pos_of_ne-zero (eqb-false K 0 range.0), ltb-false most K range.1)

-- what has room is given
pub room_gives : {A : Type 0} (needed there : ℕ) (a b : A) → room_for needed there a ≡ accepted b → a ≡ b
room_gives needed there a b h = let given = (accepted_of (ltb there needed) 14 needed (accepted a) b h).1 in cc

module _ (n L K : ℕ) (in_range fitting : Bool) (cs : Columns) where
  abbrev wrong_number : Bool
  wrong_number = out_of_range K || not in_range

  abbrev right_columns : Bool
  right_columns = equal_columns cs && fitting

  abbrev wrong_length : Bool
  wrong_length = eqb (room cs) 0 || ltb limit (room cs)

  module _ {A : Type 0} (rest : Outcome A) where
    pub listed_on : wrong_number ≡ false → right_columns ≡ true → wrong_length ≡ false
        → listed n L K in_range fitting cs rest ≡ walked n L K 0 (spot_at 0 0) (leaves cs) rest
    listed_on number columns size =
        passed_by wrong_number 17 0 _ number ∙ passed_by (not right_columns) 11 0 _ (ap not columns) ∙ passed_by wrong_length 11 0 _ size

  -- ---- the tests have passed, or have refused; whatever would follow
  pub columns_sound : listed n L K in_range fitting cs passed ≡ passed → ValidList n L K cs
  columns_sound h =
      let a = accepted_by wrong_number 17 0 _ h in
      let b = accepted_by (not right_columns) 11 0 _ a.1 in
      let d = accepted_by wrong_length 11 0 _ b.1 in
      let equal = (and-eq-true_iff (eqb (length cs.roots) (length cs.levels)) (eqb (length cs.roots) (length cs.positions))).0
      ((and-eq-true_iff (equal_columns cs) fitting).0 (not-false right_columns b.0)).0 in
      let size = or_none (eqb (room cs) 0) (ltb limit (room cs)) d.0 in
      let none = eqb-false (room cs) 0 size.0 in
      let range = in_range_lem K (or_none (out_of_range K) (not in_range) a.0).0 in
      record {
        some_root = range.0;
        few_roots = range.1;
        levels_long = eqb-true (length cs.roots) (length cs.levels) equal.0;
        positions_long = eqb-true (length cs.roots) (length cs.positions) equal.1;
        some = pos_of_ne-zero none;
        few = ltb-false limit (room cs) size.1;
        valid = (exactly n L K (leaves cs)).0 d.1;
      }

  module _ {B : Type 0} (rest : Outcome B) where
    pub listed_passed : listed n L K in_range fitting cs passed ≡ passed → listed n L K in_range fitting cs rest ≡ rest
    listed_passed h =
        let a = accepted_by wrong_number 17 0 _ h in
        let b = accepted_by (not right_columns) 11 0 _ a.1 in
        let d = accepted_by wrong_length 11 0 _ b.1 in
        listed_on rest a.0 (not-false right_columns b.0) d.0 ∙ walked_passed n L K rest 0 (spot_at 0 0) (leaves cs) d.1

    pub listed_accepted : (b : B) → listed n L K in_range fitting cs rest ≡ accepted b
        → (listed n L K in_range fitting cs passed ≡ passed) × (rest ≡ accepted b)
    listed_accepted b h =
        let a = accepted_of wrong_number 17 0 _ b h in
        let d = accepted_of (not right_columns) 11 0 _ b a.1 in
        let e = accepted_of wrong_length 11 0 _ b d.1 in
        let leaf_by_leaf = walked_accepted n L K rest 0 (spot_at 0 0) (leaves cs) b e.1 in
        (listed_on passed a.0 (not-false right_columns d.0) e.0 ∙ leaf_by_leaf.0, leaf_by_leaf.1)

    pub listed_fits : (b : B) → listed n L K in_range fitting cs rest ≡ accepted b → (in_range ≡ true) × (fitting ≡ true)
    listed_fits b h =
        let a = accepted_of wrong_number 17 0 _ b h in
        let d = accepted_of (not right_columns) 11 0 _ b a.1 in
        (not-false in_range (or_none (out_of_range K) (not in_range) a.0).1, ((and-eq-true_iff (equal_columns cs) fitting).0 (not-false right_columns d.0)).1)

    pub listed_refused : (m p : ℕ) → listed n L K in_range fitting cs passed ≡ refused m p → listed n L K in_range fitting cs rest ≡ refused m p
    listed_refused m p =
        carry wrong_number 17 0 m p _ _
        (carry (not right_columns) 11 0 m p _ _ (carry wrong_length 11 0 m p _ _ (walked_refused n L K rest 0 m p (spot_at 0 0) (leaves cs))))

-- ---- the list check
module _ (n L K : ℕ) (cs : Columns) where
  pub valid_passes : ValidList n L K cs → check_list n L K cs ≡ passed
  valid_passes v =
      simp (
        ne_eqb K 0 (λ none. omega (arith, v.some_root)),
        le-ltb 4096 K v.few_roots,
        eq-eqb (length cs.roots) (length cs.levels) v.levels_long,
        eq-eqb (length cs.roots) (length cs.positions) v.positions_long,
        ne_eqb (room cs) 0 (λ none. omega (arith, v.some)),
        le-ltb limit (room cs) v.few,
      ) ((exactly n L K (leaves cs)).1 v.valid)
