-- Each way out of the call for shares is one case of it. Assumes nothing.
use mathlib.Core.Path.{◌≡◌, refl, ap, ap₂, ◌∙◌, sym}
use mathlib.Core.Bool.{Bool, true, false, not}
use mathlib.Core.List.{List}
use Prim.Native.Nat.{ℕ, ◌+◌, ◌≤◌, ◌<◌}
use lib.Dec.{ltb, eqb}
use lib.ListN.{length}
use borrow.Author.Tests.{lt-ltb, le-ltb, eq-eqb}
use Rattle.paper.specs.Outcome.{Outcome, accepted, passed, refused, scan, checks}
use Rattle.paper.specs.Memory.{written, room_for}
use Rattle.std.specs.declared.result.Result.TheVariants.{Ok, Err}
use Rattle.paper.specs.declared.Refusal.{Refusal}
use Rattle.paper.specs.declared.Refusal.TheVariants.{NoRoom}
use Rattle.paper.specs.Refusals.{number_of, place_of, outcome_of}
use Rattle.paper.proofs.Memory.{refuses, accepts}
use Rattle.paper.proofs.Tests.{refused_by, passed_by}
use Rattle.paper.proofs.Scan.{scan_passed, scan_refused}
use Rattle.leaves.specs.Leaves.{Columns, room}
use Rattle.leaves.specs.Calls.{out_of_range, listed, check_list}
use Rattle.leaves.proofs.Listed.{listed_passed, listed_refused}
use Rattle.shares.specs.Shares.{boundaries}
use Rattle.shares.specs.Calls.{weight_fault, shares, Shared}

module _ (k p : ℕ) (cs : Columns) (ws column : List ℕ) where
  abbrev call : Outcome (List ℕ)
  call = shares 8 21 k p cs ws column

  -- what is answered of the boundaries: nothing
  abbrev done : List ℕ → Unit {0}
  done boundaries = tt

  abbrev in_range : Bool
  in_range = not (out_of_range p)

  abbrev fitting : Bool
  fitting = eqb (room cs) (length ws)

  -- the tests after those of the list
  abbrev fits : Outcome (List ℕ)
  fits = room_for (p + 1) (length column) (boundaries p ws)

  abbrev weighed : Outcome (List ℕ)
  weighed = scan weight_fault 0 ws fits

  not_shared : (r : Refusal) → call ≡ refused (number_of r) (place_of r) → Shared k p (Err r) cs ws column column
  not_shared r e = refuses outcome_of done written call (Err r) column (number_of r) (place_of r) e refl

  -- ---- those passed: the list, the weights, the room
  module _ (few : out_of_range p ≡ false) (long : room cs ≡ length ws) where
    call_listed : call ≡ listed 8 21 k true true cs weighed
    call_listed = ap₂ (λ t u. listed 8 21 k t u cs weighed) (ap not few) (eq-eqb (room cs) (length ws) long)

    pub refused_list : (r : Refusal) → refused (number_of r) (place_of r) ≡ check_list 8 21 k cs → Shared k p (Err r) cs ws column column
    refused_list r faulty =
        not_shared r (call_listed ∙ listed_refused 8 21 k true true cs weighed (number_of r) (place_of r) (sym faulty))

    module _ (valid : passed ≡ check_list 8 21 k cs) where
      call_weighed : call ≡ weighed
      call_weighed = call_listed ∙ listed_passed 8 21 k true true cs weighed (sym valid)

      pub refused_weight : (r : Refusal) → refused (number_of r) (place_of r) ≡ checks weight_fault ws → Shared k p (Err r) cs ws column column
      refused_weight r faulty =
          not_shared r (call_weighed ∙ scan_refused weight_fault 0 (number_of r) (place_of r) ws fits (sym faulty))

      module _ (weighty : passed ≡ checks weight_fault ws) where
        call_room : call ≡ fits
        call_room = call_weighed ∙ scan_passed weight_fault 0 ws fits (sym weighty)

        pub refused_room : length column < p + 1 → Shared k p (Err (NoRoom (p + 1))) cs ws column column
        refused_room short =
            not_shared (NoRoom (p + 1))
            (call_room ∙ refused_by (ltb (length column) (p + 1)) 14 (p + 1) (accepted (boundaries p ws)) (lt-ltb _ _ short))

        pub all_shared : p + 1 ≤ length column → (column' : List ℕ) → column' ≡ written (boundaries p ws) column
            → Shared k p (Ok tt) cs ws column column'
        all_shared enough column' e =
            accepts outcome_of done written call (Ok tt) column (boundaries p ws) column'
            (call_room ∙ passed_by (ltb (length column) (p + 1)) 14 (p + 1) (accepted (boundaries p ws)) (le-ltb _ _ enough)) refl e
