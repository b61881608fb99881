-- A fault lies at a number that is read, or after the last run; the tag has four bytes, K and R at most three each, and a run at most six. So no
-- offset is large, whatever the bytes, and no file is long. Assumes nothing.
use mathlib.Core.Path.{◌≡◌}
use mathlib.Core.Bool.{not, ◌&&◌, ◌||◌}
use mathlib.Core.List.{List, [], ◌∷◌}
use Prim.Native.Nat.{ℕ, zero, suc, ◌+◌, ◌*◌, ◌≤◌}
use native.Mathlib.Omega.{arith}
use lib.Dec.{ltb, eqb}
use lib.ListN.{length, length-append}
use borrow.Author.Tests.{ltb-false, not-false}
use Rattle.paper.specs.Outcome.{Outcome, refused}
use Rattle.paper.proofs.Tests.{or_none}
use Rattle.leaves.specs.Leaves.{Leaf}
use Rattle.leaves.specs.Calls.{limit, out_of_range}
use Rattle.numbers.specs.Numbers.{number_at}
use Rattle.numbers.proofs.Cases.{few_bytes}
use Rattle.format.specs.File.{Run, runs_of, run_bytes, file_of}
use Rattle.format.specs.Reading.{opens, Head, after_runs, after_roots, head_at, leaves_from, FoundRun, Walk, start, Sounded, preceded, go_on, after_last, keep, run_at, sound_from, headed, grid_at}
use Rattle.format.proofs.Cases.{Either, value, fault, when, next, wider, under, of_fault}
use Rattle.format.proofs.Faults.{Within, FaultWithin, number_placed, run_placed}
use Rattle.format.proofs.Runs.{runs_few}
use Rattle.format.proofs.Standing.{opens_long}

abbrev Any : {A : Type 0} → A → Type 0
Any a = Unit {0}

-- ---- the runs
module _ (bs : List ℕ) where
  -- from an earlier offset, up to a later one
  fault_wider : (i m i' m' : ℕ) → m ≤ m' → (i' ≤ length bs → i ≤ length bs) → (number at : ℕ) → FaultWithin bs i m number at → FaultWithin bs i' m' number at
  fault_wider i m i' m' up from number at h =
      let near = h.place.near in
      record { some = h.some; place = record { near = omega arith; inside = λ there. h.place.inside (from there) } }

  module _ (n L K : ℕ) where
    last_placed : (w : Walk) (m : ℕ) → w.next ≤ m → Either Any (FaultWithin bs w.next m) (after_last bs K w)
    last_placed w m up =
        when (not (eqb w.come.root K && eqb w.come.cell 0)) 12 w.next _ (here 12 (omega arith)) (λ full.
        when (ltb w.next (length bs)) 22 w.next _ (here 22 (omega arith)) (λ ended. value tt))
      where
        here : (number : ℕ) → 1 ≤ number → FaultWithin bs w.next m number w.next
        here number some = record { some = some; place = record { near = up; inside = λ there. there } }

    sound_placed : (R : ℕ) (w : Walk) → Either Any (FaultWithin bs w.next (w.next + 6 * R)) (sound_from n L bs K R w).fault
    unfolding sound_from
    sound_placed zero w = last_placed w (w.next + 6 * 0) (omega arith)
    sound_placed (suc R) w = by (run_at n L bs K w) (run_placed bs n L K w) (λ r. sound_placed R (keep n L w r))
      where
        after : FoundRun → Sounded
        after r = sound_from n L bs K R (keep n L w r)

        onward : FoundRun → Sounded
        onward r = preceded (leaves_from n L w.come r.level r.count) (after r)

        by : (o : Outcome FoundRun) → Either (λ r. Within bs w.next (w.next + 6) r.next) (FaultWithin bs w.next (w.next + 6)) o
            → ((r : FoundRun) → Either Any (FaultWithin bs r.next (r.next + 6 * R)) (after r).fault)
            → Either Any (FaultWithin bs w.next (w.next + 6 * suc R)) (go_on w o onward).fault
        by _ (value {a = r} one) later =
            let near = one.near in
            wider (later r) (fault_wider r.next (r.next + 6 * R) w.next (w.next + 6 * suc R) (omega arith) one.inside)
        by _ (fault {number} {place} wrong) later =
            fault (fault_wider w.next (w.next + 6) w.next (w.next + 6 * suc R) (omega arith) (λ there. there) number place wrong)

    pub runs_placed : (R : ℕ) (w : Walk) (number at : ℕ) → (sound_from n L bs K R w).fault ≡ refused number at → at ≤ w.next + 6 * R
    runs_placed R w number at is = (of_fault number at (sound_placed R w) is).place.near

-- ---- the front
module _ (bs : List ℕ) where
  record HeadWithin (h : Head) : Type 0 where
    pub near : h.next ≤ 9
    pub inside : h.next ≤ length bs
    pub few : h.runs ≤ limit

  front_placed : Either HeadWithin (FaultWithin bs 0 6) (head_at bs)
  front_placed =
      when (not (opens bs)) 18 0 _ (at_offset 0 18 (omega arith) (omega arith) (omega arith)) (λ tagged.
      let long = opens_long bs [] (not-false (opens bs) tagged) in
      next (number_at bs 4) (after_roots bs) (number_placed bs 0 6 4 (offset 4 (omega arith) long)) (λ k after.
      when (out_of_range k.value) 17 4 _ (at_offset 4 17 (omega arith) long (omega arith)) (λ range.
      let few = ltb-false 4096 k.value (or_none (eqb k.value 0) (ltb 4096 k.value) range).1 in
      let near : k.next ≤ 6 = after.nearer (omega arith) in
      next (number_at bs k.next) (after_runs k) (number_placed bs 0 6 k.next (offset k.next near after.inside)) (λ r later.
      when (eqb r.value 0 || ltb limit r.value) 21 k.next _ (at_offset k.next 21 near after.inside (omega arith)) (λ count.
      value (record {
        near = omega (arith, later.near);
        inside = later.inside;
        few = ltb-false limit r.value (or_none (eqb r.value 0) (ltb limit r.value) count).1;
      }))))))
    where
      offset : (at : ℕ) → at ≤ 6 → at ≤ length bs → Within bs 0 6 at
      offset at near there = record { near = near; inside = λ none. there }

      at_offset : (at number : ℕ) → at ≤ 6 → at ≤ length bs → 1 ≤ number → FaultWithin bs 0 6 number at
      at_offset at number near there some = record { some = some; place = offset at near there }

  -- ---- the whole file
  module _ (n L : ℕ) where
    file_placed : Either Any (FaultWithin bs 0 (10 + 6 * limit)) (grid_at n L bs)
    file_placed =
        next (head_at bs) (headed n L bs) (wider front_placed (fault_wider bs 0 6 0 (10 + 6 * limit) (omega arith) (λ there. there))) (λ h front.
        let near = front.near in
        let few = front.few in
        let whole = sound_placed bs n L h.roots h.runs (start n L h.next) in
        let all = wider whole (fault_wider bs h.next (h.next + 6 * h.runs) 0 (10 + 6 * limit) (omega arith) (λ there. front.inside)) in
        under _ (under {P' = Any} _ all (λ u t. tt)) (λ vs t. tt))

    pub grid_placed : (number at : ℕ) → grid_at n L bs ≡ refused number at → (at ≤ length bs) × (at ≤ 10 + 6 * limit)
    grid_placed number at is = let f = (of_fault number at file_placed is).place in (f.inside (omega arith), f.near)

  pub head_placed : (number at : ℕ) → head_at bs ≡ refused number at → at ≤ 6
  head_placed number at is = (of_fault number at front_placed is).place.near

-- ---- the size of a file
pub run_bytes_few : (rs : List Run) → length (run_bytes rs) ≤ 6 * length rs
unfolding run_bytes
run_bytes_few [] = omega arith
run_bytes_few (r ∷ rs) =
    let later = run_bytes_few rs in
    simp length-append (omega (arith, few_bytes r.key, few_bytes r.count))

pub file_small : (K : ℕ) (vs : List Leaf) → length (file_of K vs) ≤ 10 + 6 * length vs
file_small K vs =
    let rs = runs_of vs in
    simp length-append (omega (arith, few_bytes K, few_bytes (length rs), run_bytes_few rs, runs_few vs))
