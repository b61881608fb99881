-- Each way out of a uniform start is one case of its call; the columns hold, for each number, the entry of its leaf. Assumes nothing.
use mathlib.Core.Path.{◌≡◌, refl, ap, ◌∙◌, sym, subst}
use mathlib.Core.Bool.{true, false}
use mathlib.Core.List.{List, map}
use Prim.Native.Nat.{ℕ, ◌*◌, ◌/◌, ◌%◌, ◌^◌, ◌≤◌, ◌<◌}
use lib.ListN.{length}
use borrow.Author.Tests.{lt-ltb, le-ltb}
use Rattle.paper.specs.Outcome.{refused, accepted, rows}
use Rattle.paper.specs.Memory.{written}
use Rattle.paper.specs.Refusals.{number_of, place_of, outcome_of}
use Rattle.paper.proofs.Front.{map_rows}
use Rattle.paper.proofs.Memory.{refuses, accepts}
use Rattle.tree.proofs.Digits.{power_bits}
use Rattle.paper.specs.declared.Refusal.{Refusal}
use Rattle.std.specs.declared.result.Result.TheVariants.{Ok, Err}
use Rattle.leaves.specs.Leaves.{Leaf, leaf, Columns, equal_columns, room, front, uniform_list}
use Rattle.leaves.specs.Calls.{out_of_range, uniform, Started}
use Rattle.leaves.proofs.Starting.{leaves_shifted}
use Rattle.leaves.proofs.Columns.{columns_same}
use Rattle.leaves.proofs.UniformValid.{uniform_length}
use Rattle.columns.specs.Inner.{Filled}

-- ---- the tests in turn
module _ (k l : ℕ) (m : Columns) (number : out_of_range k ≡ false) (equal : equal_columns m ≡ true) (shallow : l ≤ 21) where
  pub many_15 : 1048576 < k * 8 ^ l → uniform 8 21 k l m ≡ refused 15 0
  many_15 many = simp (number, equal, le-ltb 21 l shallow, lt-ltb 1048576 (k * 8 ^ l) many)

  module _ (few : k * 8 ^ l ≤ 1048576) where
    pub room_14 : room m < k * 8 ^ l → uniform 8 21 k l m ≡ refused 14 (k * 8 ^ l)
    room_14 short = simp (number, equal, le-ltb 21 l shallow, le-ltb 1048576 (k * 8 ^ l) few, lt-ltb (room m) (k * 8 ^ l) short)

    pub fits : k * 8 ^ l ≤ room m → uniform 8 21 k l m ≡ accepted (uniform_list 8 21 k l)
    fits enough = simp (number, equal, le-ltb 21 l shallow, le-ltb 1048576 (k * 8 ^ l) few, le-ltb (room m) (k * 8 ^ l) enough)

-- ---- what is left behind
module _ (k l : ℕ) where
  pub not_started : (m : Columns) (r : Refusal) → uniform 8 21 k l m ≡ refused (number_of r) (place_of r) → Started k l (Err r) m m
  not_started m r e = refuses outcome_of length front (uniform 8 21 k l m) (Err r) m (number_of r) (place_of r) e refl

  -- a column that holds, for each number up to m, the answer of g about its leaf
  column : (m : ℕ) (g : Leaf → ℕ) (old new : List ℕ) → new ≡ written (rows (λ i. g (leaf (i / 2 ^ (3 * l)) l (i % 2 ^ (3 * l)))) 0 m) old
      → m ≡ k * 8 ^ l → new ≡ written (map g (uniform_list 8 21 k l)) old
  column m g old new e exact =
      subst (λ (w : ℕ). new ≡ written (map g (rows (λ i. leaf (i / w) l (i % w)) 0 (k * 8 ^ l))) old) (sym (power_bits 3 l))
      (e ∙ ap (λ (j : ℕ). written (rows (λ i. g (leaf (i / 2 ^ (3 * l)) l (i % 2 ^ (3 * l)))) 0 j) old) exact
      ∙ ap (λ (xs : List ℕ). written xs old) (sym (map_rows g (λ i. leaf (i / 2 ^ (3 * l)) l (i % 2 ^ (3 * l))) 0 (k * 8 ^ l))))

  pub started : (cs cs' : Columns) (m : ℕ) → m ≡ k * 8 ^ l → Filled (3 * l) l (k * 2 ^ (3 * l)) cs cs'
      → uniform 8 21 k l cs ≡ accepted (uniform_list 8 21 k l) → Started k l (Ok m) cs cs'
  started cs cs' m exact f e =
      let count = k * 2 ^ (3 * l) in
      let same = sym (leaves_shifted k l) in
      accepts outcome_of length front (uniform 8 21 k l cs) (Ok m) cs (uniform_list 8 21 k l) cs' e
      (ap accepted (exact ∙ sym (uniform_length 8 21 k l)))
      (columns_same cs' (front (uniform_list 8 21 k l) cs)
      (column count (λ (v : Leaf). v.root) cs.roots cs'.roots f.in_roots same)
      (column count (λ (v : Leaf). v.level) cs.levels cs'.levels f.in_levels same)
      (column count (λ (v : Leaf). v.position) cs.positions cs'.positions f.in_positions same))
