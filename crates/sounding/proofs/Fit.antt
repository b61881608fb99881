-- A run whose numbers were read and tested: what is left is that it fits, which its start and its end decide. Assumes nothing.
use mathlib.Core.Path.{◌≡◌, ◌∙◌}
use mathlib.Core.Bool.{Bool, true, false, not, ◌&&◌}
use mathlib.Core.List.{List}
use Prim.Native.Nat.{ℕ, ◌+◌, ◌%◌, ◌^◌, ◌≤◌, ◌<◌}
use native.Mathlib.Decide.{ℕ_discrete}
use lib.Dec.{eqb}
use borrow.Author.Tests.{eq-eqb, ne_eqb}
use Rattle.paper.specs.Outcome.{accepted, refuse_when_at}
use Rattle.leaves.specs.Leaves.{span}
use Rattle.leaves.specs.Calls.{limit}
use Rattle.numbers.specs.Numbers.{Found, number_at}
use Rattle.format.specs.Reading.{upto, end_from, fits, Walk, found_run, after_count, after_level, run_at}
use Rattle.format.proofs.Tests.{then_is, count_read, no_fit, run_fits}
use Rattle.format.proofs.Spots.{fits_not, fits_is}

module _ (n L : ℕ) (positive : 0 < n) (bs : List ℕ) (K : ℕ) (w : Walk) (l k : Found) (shallow : l.value ≤ L) (some : k.value ≡ 0 → ⊥)
    (proper : w.come.cell < n ^ L) where
  fit : fits n L K w.come l.value k.value ≡ (eqb (w.come.cell % span n L l.value) 0 && upto K (end_from n L w.come l.value k.value))
  fit = by (ℕ_discrete (w.come.cell % span n L l.value) 0)
    where
      by : Dec (w.come.cell % span n L l.value ≡ 0) → fits n L K w.come l.value k.value ≡ (eqb (w.come.cell % span n L l.value) 0 && upto K (end_from n L w.come l.value k.value))
      by (yes whole) = simp (eq-eqb (w.come.cell % span n L l.value) 0 whole) (fits_is n L l.value K positive shallow w.come proper whole k.value some)
      by (no within) = simp (ne_eqb (w.come.cell % span n L l.value) 0 within) (fits_not n L l.value K positive shallow w.come k.value some within)

  module _ (other : w.before ≡ l.value → ⊥) (few : w.count + k.value ≤ limit) (level : number_at bs w.next ≡ accepted l)
      (count : number_at bs l.next ≡ accepted k) where
    pub run_read : (b : Bool) → (eqb (w.come.cell % span n L l.value) 0 && upto K (end_from n L w.come l.value k.value)) ≡ b
        → run_at n L bs K w ≡ refuse_when_at (not b) 12 w.next (accepted (found_run l.value k.value k.next))
    run_read b is = then_is (number_at bs w.next) (after_level n L bs K w) l level ∙ count_read n L K w l bs shallow other k count ∙ onward b (fit ∙ is)
      where
        onward : (b : Bool) → fits n L K w.come l.value k.value ≡ b
            → after_count n L K w l k ≡ refuse_when_at (not b) 12 w.next (accepted (found_run l.value k.value k.next))
        onward true e = run_fits n L K w l k some few e
        onward false e = no_fit n L K w l k some few e
