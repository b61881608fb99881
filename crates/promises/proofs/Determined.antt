-- Each reading of an answer determines it. Assumes nothing.
use Rattle.std.proofs.Common.{◌≡◌, ℕ, ap, ap₂}
use Rattle.paper.specs.Refusals.{outcome_of, ordering_of, order_of}
use Rattle.paper.specs.Outcome.{Outcome, accepted}
use Rattle.std.specs.declared.cmp.Ordering.{Ordering}
use Rattle.paper.proofs.Refusals.{outcome_one, mapped_one, ordering_one, order_one}
use Rattle.paper.proofs.Scan.{accepted_same}
use Rattle.numbers.specs.Numbers.{found}
use Rattle.numbers.specs.Answers.{found_of}
use Rattle.numbers.specs.declared.Found as found
use Rattle.reader.specs.Answers.{size, grid_of}
use Rattle.reader.specs.declared.Grid as grid
use Rattle.sounding.specs.Answers.{front_of, head_of}
use Rattle.sounding.specs.declared.Head as head
use Rattle.fields.specs.Inner.{numbered_of}
use Rattle.fields.specs.declared.digits.Number as field
use Rattle.forms.specs.Forms.{form_of}
use Rattle.promises.proofs.Calls.{Determined}

pub results : {A : Type 0} → Determined (outcome_of {A = A})
results = outcome_one

pub comparisons : Determined ordering_of
comparisons = ordering_one

pub orders : Determined (λ (r : Ordering). accepted (order_of r))
orders r s e = order_one r s (accepted_same (order_of r) (order_of s) e)

pub found_numbers : Determined found_of
found_numbers = mapped_one (λ (f : found.Found). found f.value f.next) one
  where
    one : (a b : found.Found) → found a.value a.next ≡ found b.value b.next → a ≡ b
    one a b e = λ i. record { value = (e i).value; next = (e i).next }

pub grids : Determined grid_of
grids = mapped_one (λ (g : grid.Grid). size g.roots g.leaves) one
  where
    one : (a b : grid.Grid) → size a.roots a.leaves ≡ size b.roots b.leaves → a ≡ b
    one a b e = λ i. record { roots = (e i).roots; leaves = (e i).leaves }

pub heads : Determined head_of
heads = mapped_one front_of one
  where
    one : (a b : head.Head) → front_of a ≡ front_of b → a ≡ b
    one a b e = λ i. record { roots = (e i).roots; runs = (e i).runs; at = (e i).next }

pub field_numbers : Determined numbered_of
field_numbers = mapped_one pair one
  where
    pair : field.Number → ℕ × ℕ
    pair n = (n.value, n.end)

    one : (a b : field.Number) → pair a ≡ pair b → a ≡ b
    one a b e = λ i. record { value = (e i).0; end = (e i).1 }

pub forms_read : Determined form_of
forms_read = outcome_one
