-- The tests of the marks, passed or refused; and what is known once they have passed. Assumes nothing.
use mathlib.Core.Path.{◌≡◌, ap, ◌∙◌, sym}
use mathlib.Core.Bool.{Bool, true, false, ◌&&◌}
use mathlib.Core.List.{List}
use Prim.Native.Nat.{ℕ, ◌≤◌, ◌<◌}
use native.Mathlib.Nat.{zero-add}
use lib.Dec.{leb, ltb, eqb}
use lib.ListN.{length, get_or}
use borrow.Author.Tests.{leb-false, ltb-false, eq-eqb}
use Rattle.paper.specs.Outcome.{Outcome, accepted, refused, passed}
use Rattle.paper.proofs.Tests.{no_fault}
use Rattle.paper.proofs.Scan.{scan_passed, scan_accepted, scan_carry, scan_refused, scan_all}
use Rattle.marks.specs.Marks.{mark, mark_fault, depth_fault, numbers, marked, check_marks}

module _ (L : ℕ) (ls ms : List ℕ) where
  -- the check alone, where the marks are as many as the levels
  pub check_is : length ls ≡ length ms → check_marks L ls ms ≡ marked L ls ms passed
  check_is long = simp (eq-eqb (length ls) (length ms) long)

  module _ {A : Type 0} (rest : Outcome A) where
    pub marked_passed : marked L ls ms passed ≡ passed → marked L ls ms rest ≡ rest
    marked_passed h =
        let both = scan_accepted (mark_fault ms) 0 (numbers (length ms)) _ tt h in
        scan_passed (mark_fault ms) 0 (numbers (length ms)) _ both.0 ∙ scan_passed (depth_fault L ls ms) 0 (numbers (length ms)) rest both.1

    pub marked_refused : (m p : ℕ) → marked L ls ms passed ≡ refused m p → marked L ls ms rest ≡ refused m p
    marked_refused m p =
        scan_carry (mark_fault ms) 0 m p (numbers (length ms)) _ _ (scan_refused (depth_fault L ls ms) 0 m p (numbers (length ms)) rest)

    pub marked_accepted : (a : A) → marked L ls ms rest ≡ accepted a → (marked L ls ms passed ≡ passed) × (rest ≡ accepted a)
    marked_accepted a h =
        let marks = scan_accepted (mark_fault ms) 0 (numbers (length ms)) _ a h in
        let depths = scan_accepted (depth_fault L ls ms) 0 (numbers (length ms)) rest a marks.1 in
        (scan_passed (mark_fault ms) 0 (numbers (length ms)) _ marks.0 ∙ depths.0, depths.1)

  -- a leaf that is refined is above the highest level
  not_deep : (a : Bool) (l : ℕ) → a ≡ true → (a && leb L l) ≡ false → l < L
  not_deep a l yes_it_is none = leb-false L l (ap (λ (b : Bool). b && leb L l) (sym yes_it_is) ∙ none)

  pub refined_above : marked L ls ms passed ≡ passed → (i : ℕ) → i < length ms → mark ms i ≡ 1 → get_or ls i 0 < L
  refined_above h i inside refined =
      let both = scan_accepted (mark_fault ms) 0 (numbers (length ms)) _ tt h in
      let none = ap (depth_fault L ls ms) (sym (zero-add i)) ∙ scan_all (depth_fault L ls ms) (λ j. j) 0 (length ms) i both.1 inside in
      not_deep (eqb (mark ms i) 1) (get_or ls i 0) (eq-eqb (mark ms i) 1 refined) (no_fault (eqb (mark ms i) 1 && leb L (get_or ls i 0)) 6 0 none).0

  pub mark_known : marked L ls ms passed ≡ passed → (i : ℕ) → i < length ms → mark ms i ≤ 2
  mark_known h i inside =
      let both = scan_accepted (mark_fault ms) 0 (numbers (length ms)) _ tt h in
      let none = ap (mark_fault ms) (sym (zero-add i)) ∙ scan_all (mark_fault ms) (λ j. j) 0 (length ms) i both.0 inside in
      ltb-false 2 (mark ms i) (no_fault (ltb 2 (mark ms i)) 12 0 none).0
