-- A field from the cursor on: whether it is a number, and where it is missing. Assumes nothing.
use mathlib.Core.Path.{◌≡◌, refl, ap, ◌∙◌, sym}
use mathlib.Core.Bool.{Bool, true, false, not, true≢false}
use mathlib.Core.List.{List}
use Prim.Native.Nat.{ℕ}
use lib.Dec.{ltb}
use lib.ListN.{length}
use borrow.Author.Tests.{ltb-true}
use Rattle.paper.specs.Outcome.{accepted, refused, refuse_when_at, fault_when}
use Rattle.paper.proofs.Scan.{never, refused_same}
use Rattle.fields.specs.Fields.{is_number}
use Rattle.fields.proofs.Coming.{piece_past}
use Rattle.forms.specs.Inner.{field_at}

-- ---- whether a field is a number
module _ {A : Type 0} (t : Bool) (v : A) (n i : ℕ) where
  pub is_number_by : {w : A} → accepted w ≡ refuse_when_at (not t) n i (accepted v) → (t ≡ true) × (w ≡ v)
  is_number_by {w} e = by_test t refl e
    where
      by_test : (x : Bool) → t ≡ x → accepted w ≡ refuse_when_at (not x) n i (accepted v) → (t ≡ true) × (w ≡ v)
      by_test true is e = (is, cc)
      by_test false is e = never w n i (sym e)

  pub none_by : {m j : ℕ} → refused m j ≡ refuse_when_at (not t) n i (accepted v) → (t ≡ false) × ((m ≡ n) × (j ≡ i))
  none_by {m} {j} e = by_test t refl e
    where
      by_test : (x : Bool) → t ≡ x → refused m j ≡ refuse_when_at (not x) n i (accepted v) → (t ≡ false) × ((m ≡ n) × (j ≡ i))
      by_test true is e = never v m j e
      by_test false is e = (is, refused_same m j n i e)

-- neither missing nor no number
pub sound_number : (missing right : Bool) (rest : ℕ) → missing ≡ false → right ≡ true → fault_when missing 23 (fault_when (not right) 23 rest) ≡ rest
sound_number missing right rest there is = simp (there, is)

-- no number, missing or not
pub no_number : (missing right : Bool) (rest : ℕ) → right ≡ false → fault_when missing 23 (fault_when (not right) 23 rest) ≡ 23
no_number true right rest none = refl
no_number false right rest none = simp none

-- past the input there is no number
pub number_there : (s : List ℕ) (at : ℕ) → is_number (field_at s at) ≡ true → ltb (length s) at ≡ false
number_there s at is = by_test (ltb (length s) at) refl
  where
    by_test : (t : Bool) → ltb (length s) at ≡ t → t ≡ false
    by_test true e = absurd (true≢false (sym is ∙ ap is_number (piece_past s at (ltb-true (length s) at e))))
    by_test false e = refl
