-- Reading a file, test by test: what stands behind a test that is passed, and the refusal at one that is not. Assumes nothing.
use mathlib.Core.Path.{◌≡◌, ap, ◌∙◌}
use mathlib.Core.Bool.{true, false, not, ◌||◌}
use mathlib.Core.List.{List}
use Prim.Native.Nat.{ℕ, ◌+◌, ◌≤◌, ◌<◌}
use lib.Dec.{ltb, eqb}
use borrow.Author.Tests.{lt-ltb, le-ltb, eq-eqb, ne_eqb}
use Rattle.paper.specs.Outcome.{Outcome, accepted, refused, refuse_when_at, and_then}
use Rattle.paper.proofs.Tests.{passed_by, refused_by}
use Rattle.leaves.specs.Calls.{limit}
use Rattle.numbers.specs.Numbers.{Found, number_at}
use Rattle.format.specs.Reading.{opens, head, after_runs, after_roots, head_at, Walk, fits, found_run, after_count, after_level}

-- ---- an outcome that is handed on, a test that is passed
pub then_is : {A B : Type 0} (o : Outcome A) (f : A → Outcome B) (a : A) → o ≡ accepted a → and_then o f ≡ f a
then_is o f a e = ap (λ (x : Outcome _). and_then x f) e

pub then_stops : {A B : Type 0} (o : Outcome A) (f : A → Outcome B) (number at : ℕ) → o ≡ refused number at → and_then o f ≡ refused number at
then_stops o f number at e = ap (λ (x : Outcome _). and_then x f) e

-- ---- what stands in front of the runs
module _ (k r : Found) where
  pub no_runs : r.value ≡ 0 → after_runs k r ≡ refused 21 k.next
  no_runs none = simp (eq-eqb r.value 0 none)

  pub many_runs : (r.value ≡ 0 → ⊥) → limit < r.value → after_runs k r ≡ refused 21 k.next
  many_runs some over = simp (ne_eqb r.value 0 some, lt-ltb limit r.value over)

  pub head_is : (r.value ≡ 0 → ⊥) → r.value ≤ limit → after_runs k r ≡ accepted (head k.value r.value r.next)
  head_is some few = simp (ne_eqb r.value 0 some, le-ltb limit r.value few)

module _ (bs : List ℕ) (k : Found) where
  pub no_roots : k.value ≡ 0 → after_roots bs k ≡ refused 17 4
  no_roots none = simp (eq-eqb k.value 0 none)

  pub many_roots : (k.value ≡ 0 → ⊥) → 4096 < k.value → after_roots bs k ≡ refused 17 4
  many_roots some over = simp (ne_eqb k.value 0 some, lt-ltb 4096 k.value over)

  module _ (some : k.value ≡ 0 → ⊥) (few : k.value ≤ 4096) where
    in_range_lem : (eqb k.value 0 || ltb 4096 k.value) ≡ false
    in_range_lem = simp (ne_eqb k.value 0 some, le-ltb 4096 k.value few)

    pub runs_read : (r : Found) → number_at bs k.next ≡ accepted r → after_roots bs k ≡ after_runs k r
    runs_read r e = passed_by _ 17 4 (and_then (number_at bs k.next) (after_runs k)) in_range_lem ∙ then_is (number_at bs k.next) (after_runs k) r e

    pub runs_refused : (number at : ℕ) → number_at bs k.next ≡ refused number at → after_roots bs k ≡ refused number at
    runs_refused number at e = passed_by _ 17 4 (and_then (number_at bs k.next) (after_runs k)) in_range_lem ∙ then_stops (number_at bs k.next) (after_runs k) number at e

module _ (bs : List ℕ) where
  pub not_tagged : opens bs ≡ false → head_at bs ≡ refused 18 0
  not_tagged other = refused_by (not (opens bs)) 18 0 _ (ap not other)

  module _ (tagged : opens bs ≡ true) where
    pub roots_read : (k : Found) → number_at bs 4 ≡ accepted k → head_at bs ≡ after_roots bs k
    roots_read k e = passed_by (not (opens bs)) 18 0 _ (ap not tagged) ∙ then_is (number_at bs 4) (after_roots bs) k e

-- ---- a run
module _ (n L K : ℕ) (w : Walk) (l : Found) where
  module _ (k : Found) (some : k.value ≡ 0 → ⊥) (few : w.count + k.value ≤ limit) where
    both : after_count n L K w l k ≡ refuse_when_at (not (fits n L K w.come l.value k.value)) 12 w.next (accepted (found_run l.value k.value k.next))
    both = passed_by (eqb k.value 0) 21 l.next _ (ne_eqb k.value 0 some) ∙ passed_by (ltb limit (w.count + k.value)) 15 l.next _ (le-ltb limit (w.count + k.value) few)

    pub no_fit : fits n L K w.come l.value k.value ≡ false → after_count n L K w l k ≡ refused 12 w.next
    no_fit over = both ∙ refused_by (not (fits n L K w.come l.value k.value)) 12 w.next _ (ap not over)

    pub run_fits : fits n L K w.come l.value k.value ≡ true → after_count n L K w l k ≡ accepted (found_run l.value k.value k.next)
    run_fits fit = both ∙ passed_by (not (fits n L K w.come l.value k.value)) 12 w.next _ (ap not fit)

  module _ (bs : List ℕ) (shallow : l.value ≤ L) (other : w.before ≡ l.value → ⊥) where
    level_passes : after_level n L bs K w l ≡ and_then (number_at bs l.next) (after_count n L K w l)
    level_passes = passed_by (ltb L l.value) 1 w.next _ (le-ltb L l.value shallow) ∙ passed_by (eqb w.before l.value) 21 w.next _ (ne_eqb w.before l.value other)

    pub count_read : (k : Found) → number_at bs l.next ≡ accepted k → after_level n L bs K w l ≡ after_count n L K w l k
    count_read k e = level_passes ∙ then_is (number_at bs l.next) (after_count n L K w l) k e
