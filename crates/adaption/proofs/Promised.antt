-- All that is promised of adaption. What an accepted adaption gives is a list again: it found a valid list and no leaf to refine at the highest
-- level. So every list that is reached from a valid one is valid. Assumes nothing.
use mathlib.Core.Path.{◌≡◌, sym, subst}
use mathlib.Core.Bool.{true, false, ◌&&◌, and-eq-true_iff}
use mathlib.Core.List.{List}
use Prim.Native.Nat.{ℕ, zero, suc, ◌<◌}
use lib.Dec.{ltb, eqb}
use lib.ListN.{length}
use borrow.Author.Tests.{ltb-false, eqb-true}
use Rattle.paper.specs.Outcome.{accepted, passed, refuse_when}
use Rattle.paper.specs.Memory.{room_for}
use Rattle.paper.proofs.Scan.{accepted_of}
use Rattle.leaves.specs.Leaves.{Leaf, Columns, leaves, columns_of, equal_columns, room, Valid}
use Rattle.leaves.specs.Calls.{limit, listed}
use Rattle.leaves.specs.Laws.{ValidList}
use Rattle.leaves.proofs.Listed.{room_gives, columns_sound, listed_accepted, listed_fits}
use Rattle.leaves.proofs.Columns.{columns_valid}
use Rattle.leaves.proofs.Entries.{some_leaf, leaves_of_columns}
use Rattle.adaption.specs.Adaption.{adapted}
use Rattle.marks.specs.Marks.{marked}
use Rattle.adaption.specs.Calls.{adapt}
use Rattle.adaption.specs.Laws.{OnePass, Refinable, Step, Steps, Promised}
use Rattle.adaption.proofs.Family.{merging_is, is_merging}
use Rattle.adaption.proofs.Gives.{gives_refined, gives_merged, gives_younger, gives_kept}
use Rattle.marks.proofs.Marked.{marked_accepted}
use Rattle.adaption.proofs.Marks.{marks_exactly}
use Rattle.adaption.proofs.Validity.{adapted_valid}
use Rattle.adaption.proofs.Keeping.{unmarked_stays, refined_undone}

module _ (n L : ℕ) (positive : 0 < n) where
  one_pass : (vs : List Leaf) (ms : List ℕ) → OnePass n vs ms
  one_pass vs ms =
      record {
        exactly = λ j. (merging_is n vs ms j, is_merging n vs ms j);
        refined = gives_refined n positive vs ms;
        merged = gives_merged n positive vs ms;
        merged_too = λ j t m later below. gives_younger n positive vs ms j t m below later;
        kept = λ i other none. gives_kept n positive vs ms i other (λ j upto reach m. none j upto reach (merging_is n vs ms j m));
      }

  -- ---- an accepted adaption
  module _ (K : ℕ) (cs : Columns) (ms : List ℕ) (m : Columns) (ws : List Leaf) (h : adapt n L K cs ms m ≡ accepted ws) where
    abbrev result : List Leaf
    result = adapted n (leaves cs) ms

    list_and_rest : (listed n L K true (eqb (room cs) (length ms) && equal_columns m) cs passed ≡ passed)
        × (marked L cs.levels ms (refuse_when (ltb limit (length result)) 15 (room_for (length result) (room m) result)) ≡ accepted ws)
    list_and_rest = listed_accepted n L K true (eqb (room cs) (length ms) && equal_columns m) cs _ ws h

    list : ValidList n L K cs
    list = columns_sound n L K true (eqb (room cs) (length ms) && equal_columns m) cs list_and_rest.0

    marks_and_size : (marked L cs.levels ms passed ≡ passed)
        × (refuse_when (ltb limit (length result)) 15 (room_for (length result) (room m) result) ≡ accepted ws)
    marks_and_size = marked_accepted L cs.levels ms _ ws list_and_rest.1

    size_and_room : (ltb limit (length result) ≡ false) × (room_for (length result) (room m) result ≡ accepted ws)
    size_and_room = accepted_of (ltb limit (length result)) 15 0 _ ws marks_and_size.1

    refinable : Refinable n L (leaves cs) ms
    refinable =
        let fitting = (listed_fits n L K true (eqb (room cs) (length ms) && equal_columns m) cs _ ws h).1 in
        let long = eqb-true (room cs) (length ms) ((and-eq-true_iff (eqb (room cs) (length ms)) (equal_columns m)).0 fitting).0 in
        ((marks_exactly n L cs ms list.levels_long (sym long)).0 marks_and_size.0).1

    pub adapt_listed : ValidList n L K (columns_of ws)
    adapt_listed =
        let valid = adapted_valid n L K positive (leaves cs) ms list.valid refinable in
        subst (λ (vs : List Leaf). ValidList n L K (columns_of vs)) (room_gives (length result) (room m) result ws size_and_room.1)
        (columns_valid n L K result list.some_root list.few_roots (some_leaf n L K result list.some_root valid)
        (ltb-false limit (length result) size_and_room.0) valid)

  -- ---- one after the other
  step_valid : (K : ℕ) (vs ws : List Leaf) → Step n L K vs ws → Valid n L K ws
  step_valid K vs ws s = subst (Valid n L K) (leaves_of_columns ws) (adapt_listed K (columns_of vs) s.marks s.lent ws s.accepts).valid

  pub steps_valid : (K s : ℕ) (vs ws : List Leaf) → Valid n L K vs → Steps n L K s vs ws → Valid n L K ws
  unfolding Steps
  steps_valid K zero vs ws valid same = subst (Valid n L K) same valid
  steps_valid K (suc s) vs ws valid (us, (earlier, step)) = step_valid K us ws step

  pub promised : Promised n L
  promised =
      record {
        one_pass = one_pass;
        valid = λ K vs ms. adapted_valid n L K positive vs ms;
        unmarked = unmarked_stays n positive;
        undone = refined_undone n positive;
      }
