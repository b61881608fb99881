-- What an accepted outcome came from: each test that was passed, of a run and of what stands in front of the runs. Assumes nothing.
use mathlib.Core.Path.{◌≡◌, refl, subst}
use mathlib.Core.Bool.{true, not, ◌||◌}
use mathlib.Core.List.{List}
use Prim.Native.Nat.{ℕ, ◌+◌, ◌≤◌, ◌<◌}
use native.Mathlib.Omega.{arith}
use lib.Dec.{ltb, eqb}
use borrow.Author.Tests.{ltb-false, eqb-false, not-false}
use Rattle.paper.specs.Outcome.{Outcome, accepted, refused, mapped, and_then}
use Rattle.paper.proofs.Tests.{or_none}
use Rattle.paper.proofs.Scan.{never, accepted_of, accepted_same}
use Rattle.leaves.specs.Calls.{limit, out_of_range}
use Rattle.numbers.specs.Numbers.{found, number_at}
use Rattle.format.specs.Reading.{opens, Head, head, after_runs, after_roots, head_at, fits, Walk, FoundRun, found_run, after_count, after_level, run_at}

-- ---- what an accepted outcome came from
pub then_accepted : {A B : Type 0} (o : Outcome A) (f : A → Outcome B) (b : B) → and_then o f ≡ accepted b → (a : A) × ((o ≡ accepted a) × (f a ≡ accepted b))
then_accepted (accepted a) f b h = (a, (refl, h))
then_accepted (refused number at) f b h = never b number at h

pub mapped_accepted : {A B : Type 0} (g : A → B) (o : Outcome A) (b : B) → mapped g o ≡ accepted b → (a : A) × ((o ≡ accepted a) × (g a ≡ b))
mapped_accepted g (accepted a) b h = (a, (refl, accepted_same (g a) b h))
mapped_accepted g (refused number at) b h = never b number at h

-- a refusal under a map is a refusal
pub mapped_refused : {A B : Type 0} (f : A → B) (o : Outcome A) (number at : ℕ) → refused number at ≡ mapped f o → o ≡ refused number at
mapped_refused f (accepted a) number at e = cc
mapped_refused f (refused m j) number at e = cc

-- ---- one run
module _ (n L K : ℕ) (bs : List ℕ) where
  -- what an accepted run is
  pub record RunTaken (w : Walk) (r : FoundRun) : Type 0 where
    pub after_level : ℕ
    pub level : number_at bs w.next ≡ accepted (found r.level after_level)
    pub count : number_at bs after_level ≡ accepted (found r.count r.next)
    pub shallow : r.level ≤ L
    pub other : w.before ≡ r.level → ⊥
    pub some : r.count ≡ 0 → ⊥
    pub few : w.count + r.count ≤ limit
    pub fit : fits n L K w.come r.level r.count ≡ true

  pub run_taken : (w : Walk) (r : FoundRun) → run_at n L bs K w ≡ accepted r → RunTaken w r
  run_taken w r h =
      let level = then_accepted (number_at bs w.next) (after_level n L bs K w) r h in
      let l = level.0 in
      let shallow = accepted_of (ltb L l.value) 1 w.next _ r level.1.1 in
      let differs = accepted_of (eqb w.before l.value) 21 w.next _ r shallow.1 in
      let count = then_accepted (number_at bs l.next) (after_count n L K w l) r differs.1 in
      let k = count.0 in
      let some = accepted_of (eqb k.value 0) 21 l.next _ r count.1.1 in
      let few = accepted_of (ltb limit (w.count + k.value)) 15 l.next _ r some.1 in
      let fit = accepted_of (not (fits n L K w.come l.value k.value)) 12 w.next _ r few.1 in
      subst (RunTaken w) (accepted_same (found_run l.value k.value k.next) r fit.1)
      (record {
        after_level = l.next;
        level = level.1.0;
        count = count.1.0;
        shallow = ltb-false L l.value shallow.0;
        other = eqb-false w.before l.value differs.0;
        some = eqb-false k.value 0 some.0;
        few = ltb-false limit (w.count + k.value) few.0;
        fit = not-false (fits n L K w.come l.value k.value) fit.0;
      })

-- what an accepted head is
pub record HeadTaken (bs : List ℕ) (h : Head) : Type 0 where
  pub after_roots : ℕ
  pub tagged : opens bs ≡ true
  pub roots : number_at bs 4 ≡ accepted (found h.roots after_roots)
  pub runs : number_at bs after_roots ≡ accepted (found h.runs h.next)
  pub some_root : 0 < h.roots
  pub few_roots : h.roots ≤ 4096
  pub few_runs : h.runs ≤ limit

pub head_taken : (bs : List ℕ) (h : Head) → head_at bs ≡ accepted h → HeadTaken bs h
head_taken bs h e =
    let front = accepted_of (not (opens bs)) 18 0 _ h e in
    let roots = then_accepted (number_at bs 4) (after_roots bs) h front.1 in
    let k = roots.0 in
    let range = accepted_of (out_of_range k.value) 17 4 _ h roots.1.1 in
    let runs = then_accepted (number_at bs k.next) (after_runs k) h range.1 in
    let r = runs.0 in
    let right = accepted_of (eqb r.value 0 || ltb limit r.value) 21 k.next _ h runs.1.1 in
    let both = or_none (eqb k.value 0) (ltb 4096 k.value) range.0 in
    let many = or_none (eqb r.value 0) (ltb limit r.value) right.0 in
    subst (HeadTaken bs) (accepted_same (head k.value r.value r.next) h right.1)
    (record {
      after_roots = k.next;
      tagged = not-false (opens bs) front.0;
      roots = roots.1.0;
      runs = runs.1.0;
      some_root = above (eqb-false k.value 0 both.0);
      few_roots = ltb-false 4096 k.value both.1;
      few_runs = ltb-false limit r.value many.1;
    })
  where
    above : {m : ℕ} → (m ≡ 0 → ⊥) → 0 < m
    above {m} none = omega arith
