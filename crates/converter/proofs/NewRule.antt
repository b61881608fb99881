-- The order program's rule beside the old one: they part at an empty field seven alone, and the fields before it come first. Assumes nothing.
use mathlib.Core.Path.{◌≡◌, refl, ap, ap₂, ◌∙◌, sym}
use mathlib.Core.Bool.{Bool, true, false, not, ◌&&◌}
use mathlib.Core.Logic.{⊎_elim}
use mathlib.Core.List.{List, []}
use Prim.Native.Nat.{ℕ, zero, suc, ◌+◌, ◌-◌, ◌≤◌, ◌<◌}
use native.Mathlib.Nat.{add-zero, add-suc, suc-add}
use native.Mathlib.Omega.{arith}
use lib.Dec.{eqb, leb}
use lib.ListN.{length, get_or, length-set}
use lib.Seq.{get_or-set_other}
use Rattle.paper.specs.Outcome.{Outcome, accepted, refused, refuse_when_at, rows, scan, passed}
use Rattle.paper.proofs.Scan.{never, scan_all, scan_accepted, refused_same}
use Rattle.paper.proofs.First.{FirstFault, first_refuses, refuses_first}
use Rattle.fields.specs.Fields.{fields, ended, value}
use Rattle.forms.specs.declared.Form.{Form}
use Rattle.forms.specs.Forms.{given, number_in, outside, number_fault, fault, form_in, read}
use Rattle.converter.specs.Converter.{as_meant, old_read}
use Rattle.converter.specs.Laws.{Empty, NewRule}
use Rattle.converter.proofs.Old.{filled_same}

-- ---- the faults of the fields before the seventh
module _ (fs : List (List ℕ)) where
  same_given : (i : ℕ) → i < 7 → given (as_meant fs) i ≡ given fs i
  same_given i low = get_or-set_other fs 6 (i - 1) _ [] (λ six. omega (arith, six))

  same_fault : (i : ℕ) → i < 7 → fault (as_meant fs) i ≡ fault fs i
  same_fault i low =
      let long : leb (length (as_meant fs)) (i - 1) ≡ leb (length fs) (i - 1) = ap (λ (n : ℕ). leb n (i - 1)) (length-set fs 6 _) in
      ap₂ (λ (x : Bool) (f : List ℕ). number_fault x f (outside i (value f) (number_in (as_meant fs) 4) (number_in (as_meant fs) 5))) long (same_given i low)
      ∙ ap₂ (λ (f g : List ℕ). number_fault (leb (length fs) (i - 1)) (given fs i) (outside i (number_in fs i) (value f) (value g)))
      (same_given 4 (omega arith)) (same_given 5 (omega arith))

  -- an empty field seven is no number, whether it is missing or there
  empty_fault : given fs 7 ≡ [] → fault fs 7 ≡ 23
  empty_fault none = by_missing (leb (length fs) 6)
    where
      by_missing : (t : Bool) → number_fault t (given fs 7) (outside 7 (number_in fs 7) (number_in fs 4) (number_in fs 5)) ≡ 23
      by_missing true = refl
      by_missing false = ap (λ (f : List ℕ). number_fault false f (outside 7 (number_in fs 7) (number_in fs 4) (number_in fs 5))) none

-- ---- the seven fields in turn
abbrev places : List ℕ
places = rows (λ i. i) 1 7

place_at : (i k j : ℕ) → j < k → get_or (rows (λ i. i) i k) j 0 ≡ i + j
place_at i zero j below = absurd (omega arith)
place_at i (suc k) zero below = sym (add-zero i)
place_at i (suc k) (suc j) below = place_at (suc i) k j (omega arith) ∙ suc-add i j ∙ sym (add-suc i j)

abbrev lastly : List (List ℕ) → Bool → Outcome Form
lastly fs whole = refuse_when_at (not (eqb (length fs) 7 && whole)) 23 8 (accepted (form_in fs))

-- what refuses after the seven fields does so at field 8
after_seven : (t : Bool) (f : Form) (number place : ℕ) → refuse_when_at t 23 8 (accepted f) ≡ refused number place → place ≡ 8
after_seven true f number place e = sym (refused_same 23 8 number place e).1
after_seven false f number place e = never f number place (sym e)

module _ (s : List ℕ) where
  abbrev fs : List (List ℕ)
  fs = fields s

  abbrev ms : List (List ℕ)
  ms = as_meant fs

  fault_at : (j : ℕ) → j < 6 → fault ms (get_or places j 0) ≡ fault fs (get_or places j 0)
  fault_at j low = same_fault fs (get_or places j 0) (omega (arith, place_at 1 7 j (omega arith)))

  -- the old rule refuses before field seven
  earlier : (number j : ℕ) → j < 6 → FirstFault (fault ms) places 0 number j → read s ≡ refused number (1 + j)
  earlier number j low first =
      first_refuses (fault fs) 0 (lastly fs (ended s)) 1 j number places
      (record {
        below = first.below;
        is = sym (fault_at j low) ∙ first.is;
        some = first.some;
        before = λ k less. sym (fault_at k (omega arith)) ∙ first.before k less;
      })

  -- or not
  later : ((k : ℕ) → k < 6 → fault ms (get_or places k 0) ≡ 0) → Empty s → read s ≡ refused 23 7
  later clean none =
      first_refuses (fault fs) 0 (lastly fs (ended s)) 1 6 23 places
      (record {
        below = omega arith;
        is = empty_fault fs none.1;
        some = λ z. omega (arith, z);
        before = λ k less. sym (fault_at k less) ∙ clean k less;
      })

  from_passed : scan (fault ms) 1 places passed ≡ passed → (k : ℕ) → k < 6 → fault ms (get_or places k 0) ≡ 0
  from_passed passes k low = ap (fault ms) (place_at 1 7 k (omega arith)) ∙ scan_all (fault ms) (λ i. i) 1 7 k passes (omega arith)

  one_to_six : (number field : ℕ) → old_read s ≡ refused number field → field < 7 → read s ≡ refused number field
  one_to_six number field is low =
      ⊎_elim
      (λ (w : (j : ℕ) × ((field ≡ 1 + j) × FirstFault (fault ms) places 0 number j)).
      earlier number w.0 (omega (arith, w.1.0)) w.1.1 ∙ ap (refused number) (sym w.1.0))
      (λ (w : (scan (fault ms) 1 places passed ≡ passed) × (lastly ms (ended s) ≡ refused number field)).
      absurd (omega (arith, after_seven (not (eqb (length ms) 7 && ended s)) (form_in ms) number field w.1)))
      (refuses_first (fault ms) 0 (lastly ms (ended s)) 1 number field places is)

  seven : Empty s → ((number field : ℕ) → old_read s ≡ refused number field → 7 ≤ field) → read s ≡ refused 23 7
  seven none late = by_outcome (old_read s) refl
    where
      by_outcome : (o : Outcome Form) → old_read s ≡ o → read s ≡ refused 23 7
      by_outcome (accepted f) is = later (from_passed (scan_accepted (fault ms) 1 places (lastly ms (ended s)) f is).0) none
      by_outcome (refused number field) is =
          let far = late number field is in
          ⊎_elim
          (λ (w : (j : ℕ) × ((field ≡ 1 + j) × FirstFault (fault ms) places 0 number j)).
          later (λ k less. w.1.1.before k (omega (arith, w.1.0))) none)
          (λ (w : (scan (fault ms) 1 places passed ≡ passed) × (lastly ms (ended s) ≡ refused number field)). later (from_passed w.0) none)
          (refuses_first (fault ms) 0 (lastly ms (ended s)) 1 number field places is)

pub new_rule : NewRule
new_rule = record { filled = filled_same; one_to_six = one_to_six; seven = seven }
