-- A refusal of an order: its field is the first of the seven with a fault, or it is field 8 after them; its number is one of the tests'.
-- Assumes nothing.
use mathlib.Core.Path.{◌≡◌, refl, sym, subst}
use mathlib.Core.Bool.{Bool, true, false, not, ◌&&◌}
use mathlib.Core.List.{List, [], ◌∷◌, Memᴰ}
use Prim.Native.Nat.{ℕ, zero, suc, ◌+◌, ◌-◌, ◌*◌, ◌^◌, ◌≤◌, ◌<◌}
use native.Mathlib.Omega.{arith}
use lib.Dec.{eqb, leb, ltb}
use lib.ListN.{length}
use borrow.Author.Tests.{eqb-false, not-true}
use Rattle.paper.specs.Outcome.{Outcome, accepted, refused, refuse_when_at, fault_when, scan, rows}
use Rattle.paper.proofs.Scan.{never}
use Rattle.leaves.specs.Calls.{limit, out_of_range}
use Rattle.fields.specs.Fields.{fields, ended, is_number}
use Rattle.forms.specs.Forms.{given, number_in, fault, form_in, read}

-- ---- the numbers
abbrev pub Among : ℕ → Type 0
Among number = Memᴰ number (1 ∷ 15 ∷ 17 ∷ 23 ∷ [])

-- none, or one of them
abbrev IfSome : ℕ → Type 0
IfSome number = (number ≡ 0 → ⊥) → Among number

when : (t : Bool) (number rest : ℕ) → Among number → IfSome rest → IfSome (fault_when t number rest)
when true number rest here later = λ some. here
when false number rest here later = later

one : Among 1
one = Memᴰ.head refl

fifteen : Among 15
fifteen = Memᴰ.tail (Memᴰ.head refl)

seventeen : Among 17
seventeen = Memᴰ.tail (Memᴰ.tail (Memᴰ.head refl))

twenty_three : Among 23
twenty_three = Memᴰ.tail (Memᴰ.tail (Memᴰ.tail (Memᴰ.head refl)))

fault_among : (fs : List (List ℕ)) (i : ℕ) → IfSome (fault fs i)
fault_among fs i =
    let v = number_in fs i in
    when (leb (length fs) (i - 1)) 23 _ twenty_three
    (when (not (is_number (given fs i))) 23 _ twenty_three
    (when (eqb i 4 && out_of_range v) 17 _ seventeen
    (when (eqb i 5 && ltb 21 v) 1 _ one
    (when (eqb i 6 && out_of_range v) 17 _ seventeen
    (when (eqb i 7 && ltb (number_in fs 5) v) 23 _ twenty_three
    (when (eqb i 7 && ltb limit (number_in fs 4 * 8 ^ v)) 15 0 fifteen (λ some. absurd (some refl))))))))

-- ---- the first fault of a scan, or what follows it
module _ {A : Type 0} (P : ℕ → ℕ → Type 0) (m q : ℕ) where
  refused_where : (t : Bool) (number place : ℕ) (o : Outcome A) → (t ≡ true → P number place) → (o ≡ refused m q → P m q)
      → refuse_when_at t number place o ≡ refused m q → P m q
  refused_where true number place o here later is =
      let same_number : number ≡ m = cc in
      let same_place : place ≡ q = cc in
      subst (P m) same_place (subst (λ (k : ℕ). P k place) same_number (here refl))
  refused_where false number place o here later is = later is

  scanned_where : (f : ℕ → ℕ) (i k : ℕ) (o : Outcome A) → ((j : ℕ) → i ≤ j → j < i + k → (f j ≡ 0 → ⊥) → P (f j) j) → (o ≡ refused m q → P m q)
      → scan f i (rows (λ j. j) i k) o ≡ refused m q → P m q
  scanned_where f i zero o each later is = later is
  scanned_where f i (suc k) o each later is =
      refused_where (not (eqb (f i) 0)) (f i) i _ (λ some. each i (omega arith) (omega arith) (eqb-false (f i) 0 (not-true (eqb (f i) 0) some)))
      (scanned_where f (suc i) k o (λ j low high. each j (omega arith) (omega arith)) later) is

-- ---- an order that is refused
pub read_refused : (s : List ℕ) (number field : ℕ) → read s ≡ refused number field → Among number × ((1 ≤ field) × (field ≤ 8))
read_refused s number field =
    let fs = fields s in
    scanned_where At number field (fault fs) 1 7 _ (λ j low high some. (fault_among fs j some, (low, omega arith)))
    (refused_where At number field (not (eqb (length fs) 7 && ended s)) 23 8 (accepted (form_in fs)) (λ loose. (twenty_three, (omega arith, omega arith)))
    (λ is. never (form_in fs) number field (sym is)))
  where
    At : ℕ → ℕ → Type 0
    At number field = Among number × ((1 ≤ field) × (field ≤ 8))
