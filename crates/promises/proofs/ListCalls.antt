-- The refusals of the list calls: each test has its number, and no place is above the number of leaves that a list may have. Assumes nothing.
use mathlib.Core.Path.{◌≡◌, refl}
use mathlib.Core.Bool.{Bool, true, false, not, ◌&&◌, ◌||◌}
use mathlib.Core.List.{List, [], ◌∷◌, Memᴰ}
use Prim.Native.Nat.{ℕ, suc, ◌+◌, ◌*◌, ◌^◌, ◌≤◌}
use native.Mathlib.Omega.{arith}
use lib.Dec.{leb, ltb, eqb}
use lib.ListN.{length, get_or}
use borrow.Author.Tests.{ltb-false, not-true, not-false, eqb-true}
use Rattle.paper.specs.Outcome.{Outcome}
use Rattle.paper.proofs.Tests.{or_none}
use Rattle.leaves.specs.Leaves.{Leaf, Columns, leaves, room, equal_columns, uniform_list, Spot, spot_at, end_of}
use Rattle.leaves.specs.Calls.{limit, most, out_of_range, starts, leaf_fault, walked, listed, check_list, uniform}
use Rattle.leaves.proofs.Columns.{leaves_length}
use Rattle.balance.specs.Balance.{is_balanced, balanced}
use Rattle.marks.specs.Marks.{mark, mark_fault, depth_fault, numbers, marked, check_marks}
use Rattle.adaption.specs.Adaption.{adapted}
use Rattle.adaption.specs.Calls.{adapt}
use Rattle.shares.specs.Shares.{boundaries}
use Rattle.shares.specs.Calls.{weight_fault, shares}
use Rattle.paper.proofs.Scan.{rows_length}
use Rattle.promises.specs.Refusals.{Refuses}
use Rattle.promises.proofs.Refusals.{Known, no_fault, fault_so, fine, when, when_at, fault_at, in_turn, room_so, at0, at1, at2, at3, at4, after}

-- the numbers of every list call come first
abbrev pub Listed : List ℕ → List ℕ
Listed ns = 17 ∷ 11 ∷ 1 ∷ 5 ∷ 12 ∷ ns

leaf_known : (n L : ℕ) {ns : List ℕ} (K : ℕ) (c : Spot) (v : Leaf) → Known (Listed ns) (leaf_fault n L K c v)
leaf_known n L K c v =
    fault_so (ltb L v.level) 1 _ at2
    (fault_so (leb (n ^ v.level) v.position) 5 _ at3 (fault_so (not (starts n L K c v)) 12 0 at4 (no_fault _)))

module _ (n L : ℕ) {A : Type 0} {ns : List ℕ} {top : ℕ} where
  walked_so : (K i : ℕ) (c : Spot) (vs : List Leaf) {o : Outcome A} → i + length vs ≤ top → Refuses (Listed ns) top o
      → Refuses (Listed ns) top (walked n L K i c vs o)
  unfolding walked
  walked_so K i c [] low rest = when_at (not (eqb c.root K && eqb c.cell 0)) 12 i at4 (λ e. omega arith) (λ e. rest)
  walked_so K i c (v ∷ vs) low rest =
      fault_at (leaf_fault n L K c v) i (leaf_known n L K c v) (omega arith) (walked_so K (suc i) (end_of n L v) vs (omega arith) rest)

  -- what follows may use that the numbers are in range, the columns fit and the list is not too long
  pub listed_so : (K : ℕ) (in_range fitting : Bool) (cs : Columns) {o : Outcome A} → limit ≤ top
      → (not in_range ≡ false → fitting ≡ true → room cs ≤ limit → Refuses (Listed ns) top o) → Refuses (Listed ns) top (listed n L K in_range fitting cs o)
  listed_so K in_range fitting cs enough rest =
      when (out_of_range K || not in_range) 17 at0 (λ range.
      when (not (equal_columns cs && fitting)) 11 at1 (λ equal.
      when (eqb (room cs) 0 || ltb limit (room cs)) 11 at1 (λ few.
      let short = ltb-false limit (room cs) (or_none (eqb (room cs) 0) (ltb limit (room cs)) few).1 in
      walked_so K 0 (spot_at 0 0) (leaves cs) (omega (arith, leaves_length cs))
      (rest (or_none (out_of_range K) (not in_range) range).1 (both_right (equal_columns cs) fitting (not-false _ equal)) short))))
    where
      both_right : (a b : Bool) → (a && b) ≡ true → b ≡ true
      both_right true b e = e
      both_right false b e = cc

-- ---- the calls
pub check_so : (K : ℕ) (cs : Columns) → Refuses (Listed []) limit (check_list 8 21 K cs)
check_so K cs = listed_so 8 21 K true true cs (omega arith) (λ range fits few. fine tt)

pub balanced_so : (K : ℕ) (cs : Columns) → Refuses (Listed []) limit (balanced 8 21 K cs)
balanced_so K cs = listed_so 8 21 K true true cs (omega arith) (λ range fits few. fine (is_balanced (leaves cs)))

pub uniform_so : (K l : ℕ) (m : Columns) → Refuses (17 ∷ 11 ∷ 1 ∷ 15 ∷ 14 ∷ []) limit (uniform 8 21 K l m)
uniform_so K l m =
    when (out_of_range K) 17 at0 (λ range. when (not (equal_columns m)) 11 at1 (λ equal. when (ltb 21 l) 1 at2 (λ shallow.
    when (ltb limit (K * 8 ^ l)) 15 at3 (λ few. room_so (K * 8 ^ l) (room m) (uniform_list 8 21 K l) at4 (ltb-false limit (K * 8 ^ l) few)))))

module _ {A : Type 0} {ns : List ℕ} {top : ℕ} where
  -- the marks: 13, then 7, at a leaf
  marks_so : (L : ℕ) (ls ms : List ℕ) {o : Outcome A} → Memᴰ 13 ns → Memᴰ 7 ns → length ms ≤ suc top → Refuses ns top o
      → Refuses ns top (marked L ls ms o)
  marks_so L ls ms thirteen seven low rest =
      in_turn (mark_fault ms) 0 (numbers (length ms)) (λ i inside. fault_so (ltb 2 (mark ms i)) 13 0 thirteen (no_fault _)) (omega (arith, rows_length (λ i. i) 0 (length ms)))
      (in_turn (depth_fault L ls ms) 0 (numbers (length ms)) (λ i inside. fault_so (eqb (mark ms i) 1 && leb L (get_or ls i 0)) 7 0 seven (no_fault _))
      (omega (arith, rows_length (λ i. i) 0 (length ms))) rest)

pub check_marks_so : (L : ℕ) (ls ms : List ℕ) → Refuses (11 ∷ 13 ∷ 7 ∷ []) (length ms) (check_marks L ls ms)
check_marks_so L ls ms = when (not (eqb (length ls) (length ms))) 11 at0 (λ equal. marks_so L ls ms at1 at2 (omega arith) (fine tt))

pub adapt_so : (K : ℕ) (cs : Columns) (ms : List ℕ) (m : Columns) → Refuses (Listed (13 ∷ 7 ∷ 15 ∷ 14 ∷ [])) limit (adapt 8 21 K cs ms m)
adapt_so K cs ms m =
    let ws = adapted 8 (leaves cs) ms in
    listed_so 8 21 K true (eqb (room cs) (length ms) && equal_columns m) cs (omega arith) (λ range fits few.
    marks_so 21 cs.levels ms (after at4) (after (after at4)) (short (and_left (eqb (room cs) (length ms)) (equal_columns m) fits) few)
    (when (ltb limit (length ws)) 15 (after (after (after at4))) (λ small.
    room_so (length ws) (room m) ws (after (after (after (after at4)))) (ltb-false limit (length ws) small))))
  where
    and_left : (a b : Bool) → (a && b) ≡ true → a ≡ true
    and_left true b e = refl
    and_left false b e = e

    short : eqb (room cs) (length ms) ≡ true → room cs ≤ limit → length ms ≤ suc limit
    short equal few = omega (arith, eqb-true (room cs) (length ms) equal)

pub shares_so : (K P : ℕ) (cs : Columns) (ws m : List ℕ) → Refuses (Listed (16 ∷ 14 ∷ [])) limit (shares 8 21 K P cs ws m)
shares_so K P cs ws m =
    listed_so 8 21 K (not (out_of_range P)) (eqb (room cs) (length ws)) cs (omega arith) (λ range fits few.
    in_turn weight_fault 0 ws (λ w inside. fault_so (eqb w 0) 16 0 (after at4) (no_fault _)) (omega (arith, eqb-true (room cs) (length ws) fits))
    (room_so (P + 1) (length m) (boundaries P ws) (after (after at4)) (narrow (not-false _ range))))
  where
    narrow : not (out_of_range P) ≡ true → P + 1 ≤ limit
    narrow range = omega (arith, ltb-false most P (or_none (eqb P 0) (ltb most P) (not-true (out_of_range P) range)).1)
