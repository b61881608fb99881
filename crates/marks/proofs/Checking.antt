-- Each way out of the check of the marks is one case of it. Assumes nothing.
use mathlib.Core.Path.{◌≡◌, ◌∙◌}
use mathlib.Core.List.{List}
use Prim.Native.Nat.{ℕ}
use native.Mathlib.Omega.{arith}
use lib.ListN.{length}
use Rattle.paper.specs.Outcome.{refused, passed, checks}
use Rattle.paper.proofs.Scan.{scan_passed, scan_refused}
use Rattle.marks.specs.Marks.{mark_fault, depth_fault, numbers, check_marks}
use Rattle.marks.specs.Inner.{Faultless}
use Rattle.marks.proofs.Sound.{all_sound}
use Rattle.marks.proofs.Marked.{check_is}

module _ (L : ℕ) (ls ms : List ℕ) where
  module _ (long : length ls ≡ length ms) where
    pub faultless : Faultless L ls ms (length ms) → check_marks L ls ms ≡ passed
    faultless none =
        check_is L ls ms long
        ∙ scan_passed (mark_fault ms) 0 (numbers (length ms)) _
        (all_sound (mark_fault ms) (length ms) 0 (length ms) (omega arith) (λ j before. (none j before).0))
        ∙ all_sound (depth_fault L ls ms) (length ms) 0 (length ms) (omega arith) (λ j before. (none j before).1)

    pub above_13 : (fault spot : ℕ) → checks (mark_fault ms) (numbers (length ms)) ≡ refused fault spot → check_marks L ls ms ≡ refused fault spot
    above_13 fault spot h = check_is L ls ms long ∙ scan_refused (mark_fault ms) 0 fault spot (numbers (length ms)) _ h

    pub then_deep : checks (mark_fault ms) (numbers (length ms)) ≡ passed → check_marks L ls ms ≡ checks (depth_fault L ls ms) (numbers (length ms))
    then_deep h = check_is L ls ms long ∙ scan_passed (mark_fault ms) 0 (numbers (length ms)) _ h
