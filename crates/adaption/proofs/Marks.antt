-- The tests of the marks, said of the leaves: they pass exactly when no mark is above 2 and no leaf of the highest level is marked 1.
-- Assumes nothing.
use mathlib.Core.Path.{◌≡◌, ◌∙◌, sym}
use mathlib.Core.Logic.{◌↔◌}
use mathlib.Core.List.{List}
use Prim.Native.Nat.{ℕ, ◌≤◌, ◌<◌}
use native.Mathlib.Decide.{ℕ_discrete}
use native.Mathlib.Omega.{arith}
use lib.ListN.{length, get_or}
use borrow.Author.Tests.{le-ltb, lt-leb, eq-eqb, ne_eqb}
use Rattle.paper.specs.Outcome.{passed}
use Rattle.leaves.specs.Leaves.{Columns, leaves, room}
use Rattle.leaves.proofs.Columns.{nth_leaves, leaves_length}
use Rattle.marks.specs.Marks.{mark, depth_fault, marked}
use Rattle.marks.proofs.Marked.{check_is, mark_known, refined_above}
use Rattle.marks.proofs.Checking.{faultless}
use Rattle.adaption.specs.Laws.{Refinable}

not_too_deep : (L : ℕ) (ls ms : List ℕ) (i : ℕ) → (mark ms i ≡ 1 → get_or ls i 0 < L) → depth_fault L ls ms i ≡ 0
not_too_deep L ls ms i above = by (ℕ_discrete (mark ms i) 1)
  where
    by : Dec (mark ms i ≡ 1) → depth_fault L ls ms i ≡ 0
    by (yes refined) = simp (eq-eqb (mark ms i) 1 refined, lt-leb L (get_or ls i 0) (above refined))
    by (no other) = simp (ne_eqb (mark ms i) 1 other)

abbrev Known : List ℕ → Type 0
Known ms = (i : ℕ) → i < length ms → mark ms i ≤ 2

module _ (n L : ℕ) (cs : Columns) (ms : List ℕ) (levels_long : room cs ≡ length cs.levels) (long : length ms ≡ room cs) where
  sound : marked L cs.levels ms passed ≡ passed → Known ms × Refinable n L (leaves cs) ms
  sound h = (
    mark_known L cs.levels ms h,
    λ i inside refined.
        rw (nth_leaves cs i (omega (arith, leaves_length cs))) (refined_above L cs.levels ms h i (omega (arith, leaves_length cs)) refined),
  )

  complete : Known ms × Refinable n L (leaves cs) ms → marked L cs.levels ms passed ≡ passed
  complete (known, refinable) =
      let equal : length cs.levels ≡ length ms = sym levels_long ∙ sym long in
      sym (check_is L cs.levels ms equal)
      ∙ faultless L cs.levels ms equal (λ i inside. (
        simp (le-ltb 2 (mark ms i) (known i inside)),
        not_too_deep L cs.levels ms i
            (λ refined. rw (nth_leaves cs i (omega (arith, leaves_length cs))) at (refinable i (omega (arith, leaves_length cs)) refined)),
      ))

  pub marks_exactly : marked L cs.levels ms passed ≡ passed ↔ (Known ms × Refinable n L (leaves cs) ms)
  marks_exactly = (sound, complete)
