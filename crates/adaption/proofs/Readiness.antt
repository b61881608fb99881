-- What the pass may rely on once a list and its marks have passed their tests: it is ready. Assumes nothing.
use mathlib.Core.Path.{◌≡◌, subst}
use mathlib.Core.List.{List}
use Prim.Native.Nat.{ℕ, suc, ◌+◌, ◌*◌, ◌^◌, ◌≤◌, ◌<◌}
use native.Mathlib.Nat.{mul-le-mul_left, mul-add, mul-one, pow-succ', le_trans}
use native.Mathlib.Omega.{arith}
use lib.ListN.{length}
use lib.Pow.{pow_pos, pow_mono}
use Rattle.paper.specs.Outcome.{passed}
use Rattle.tree.proofs.Digits.{power_bits}
use Rattle.leaves.specs.Leaves.{Leaf, Columns, leaf_at, leaves, room, spot_at}
use Rattle.leaves.specs.Laws.{ValidList}
use Rattle.leaves.proofs.Columns.{nth_leaves, leaves_length}
use Rattle.leaves.proofs.Shift.{position_lt}
use Rattle.leaves.proofs.Entries.{level_at, position_at_lem}
use Rattle.marks.specs.Marks.{mark, marked}
use Rattle.adaption.specs.Inner.{Ready}
use Rattle.marks.proofs.Marked.{refined_above, mark_known}
use Rattle.adaption.proofs.Siblings.{are_siblings}

-- ---- 2^b children
module _ (b L K : ℕ) (narrow : b * L ≤ 63) (small : L ≤ 254) (cs : Columns) (ms : List ℕ)
    (list : ValidList (2 ^ b) L K cs) (long : room cs ≡ length ms) (marks : marked L cs.levels ms passed ≡ passed) where
  within : (i : ℕ) → i < room cs → i < length (leaves cs)
  within i inside = omega (arith, leaves_length cs)

  level_here : (i : ℕ) → i < room cs → (leaf_at cs i).level ≤ L
  level_here i inside =
      subst (λ (v : Leaf). v.level ≤ L) (nth_leaves cs i inside) (level_at (2 ^ b) L K (spot_at 0 0) (leaves cs) i list.valid (within i inside))

  position_here : (i : ℕ) → i < room cs → (leaf_at cs i).position < (2 ^ b) ^ (leaf_at cs i).level
  position_here i inside =
      subst (λ (v : Leaf). v.position < (2 ^ b) ^ v.level) (nth_leaves cs i inside)
      (position_at_lem (2 ^ b) L K (spot_at 0 0) (leaves cs) i list.valid (within i inside))

  above : (i : ℕ) → i < room cs → mark ms i ≡ 1 → (leaf_at cs i).level < L
  above i inside = refined_above L cs.levels ms marks i (omega (arith, long))

  children_low : (l p : ℕ) → l < L → p < (2 ^ b) ^ l → 2 ^ b * p + 2 ^ b ≤ 2 ^ 63
  children_low l p deeper below =
      let next : p + 1 ≤ (2 ^ b) ^ l = omega arith in
      let deep : suc l ≤ L = omega arith in
      let product = mul-le-mul_left (2 ^ b) next in
      let bits : 2 ^ (b * suc l) ≤ 2 ^ 63 = pow_mono (le_trans (mul-le-mul_left b deep) narrow) in
      omega (arith, product, mul-add (2 ^ b) p 1, mul-one (2 ^ b), pow-succ' (2 ^ b) l, power_bits b (suc l), bits)

  pub ready : Ready (2 ^ b) cs ms
  ready =
      record {
        few = list.few;
        levels_long = list.levels_long;
        positions_long = list.positions_long;
        marks_long = long;
        siblings = are_siblings (2 ^ b) L (pow_pos b) K (spot_at 0 0) (leaves cs) list.valid;
        known = λ i inside. mark_known L cs.levels ms marks i (omega (arith, long));
        low = λ i inside. position_lt b L narrow (leaf_at cs i).position (leaf_at cs i).level (level_here i inside) (position_here i inside);
        shallow = λ i inside refined. let deep = above i inside refined in omega arith;
        narrow = λ i inside refined. children_low (leaf_at cs i).level (leaf_at cs i).position (above i inside refined) (position_here i inside);
      }
