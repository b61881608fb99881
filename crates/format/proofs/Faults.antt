-- Each fault has a number of its own, so that 0 can stand for none; and it lies at a number that is read, each at most three bytes after the one
-- before it. Assumes nothing.
use mathlib.Core.Path.{◌≡◌}
use mathlib.Core.Bool.{not}
use mathlib.Core.List.{List}
use Prim.Native.Nat.{ℕ, ◌+◌, ◌-◌, ◌*◌, ◌≤◌, ◌<◌}
use native.Mathlib.Omega.{arith}
use lib.Dec.{leb, ltb, eqb}
use lib.ListN.{length}
use borrow.Author.Tests.{leb-false, eqb-false}
use Rattle.leaves.specs.Calls.{limit}
use Rattle.numbers.specs.Numbers.{Found, byte_at, number_at}
use Rattle.format.specs.Reading.{fits, Walk, FoundRun, after_count, after_level, run_at}
use Rattle.format.proofs.Cases.{Either, value, when, choose, next}

module _ (bs : List ℕ) where
  -- an offset up to m, and in the file where the offset i is
  pub record Within (i m at : ℕ) : Type 0 where
    pub near : at ≤ m
    pub inside : i ≤ length bs → at ≤ length bs

  pub record FaultWithin (i m number at : ℕ) : Type 0 where
    pub some : 0 < number
    pub place : Within i m at

  pub record FoundAfter (i : ℕ) (f : Found) : Type 0 where
    pub near : f.next ≤ i + 3
    pub nearer : f.value < 16384 → f.next ≤ i + 2
    pub inside : f.next ≤ length bs

  module _ (i m at : ℕ) (here : Within i m at) where
    at_fault : (number : ℕ) → 0 < number → FaultWithin i m number at
    at_fault number some = record { some = some; place = here }

    pub number_placed : Either (FoundAfter at) (FaultWithin i m) (number_at bs at)
    number_placed =
        when (leb (length bs) at) 19 at _ (at_fault 19 (omega arith)) (λ first.
        choose (ltb (byte_at bs at) 128) _ _ (λ last. value (one (leb-false (length bs) at first))) (λ more.
        when (leb (length bs) (at + 1)) 19 at _ (at_fault 19 (omega arith)) (λ second.
        when (eqb (byte_at bs (at + 1)) 0) 20 at _ (at_fault 20 (omega arith)) (λ some.
        choose (ltb (byte_at bs (at + 1)) 128) _ _ (λ last. value (two (leb-false (length bs) (at + 1) second))) (λ still.
        when (leb (length bs) (at + 2)) 19 at _ (at_fault 19 (omega arith)) (λ third.
        when (eqb (byte_at bs (at + 2)) 0) 20 at _ (at_fault 20 (omega arith)) (λ high.
        when (leb 128 (byte_at bs (at + 2))) 20 at _ (at_fault 20 (omega arith)) (λ last.
        value (three (leb-false (length bs) (at + 2) third) (eqb-false (byte_at bs (at + 2)) 0 high))))))))))
      where
        one : at < length bs → FoundAfter at (record { value = byte_at bs at; next = at + 1 })
        one there = record { near = omega arith; nearer = λ low. omega arith; inside = omega arith }

        two : at + 1 < length bs → FoundAfter at (record { value = byte_at bs at - 128 + 128 * byte_at bs (at + 1); next = at + 2 })
        two there = record { near = omega arith; nearer = λ low. omega arith; inside = omega arith }

        three : at + 2 < length bs → (byte_at bs (at + 2) ≡ 0 → ⊥)
            → FoundAfter at (record { value = byte_at bs at - 128 + 128 * (byte_at bs (at + 1) - 128) + 16384 * byte_at bs (at + 2); next = at + 3 })
        three there high = record { near = omega arith; nearer = λ low. absurd (omega arith); inside = omega arith }

  -- ---- a run
  module _ (n L K : ℕ) (w : Walk) where
    abbrev RunAfter : FoundRun → Type 0
    RunAfter r = Within w.next (w.next + 6) r.next

    pub run_placed : Either RunAfter (FaultWithin w.next (w.next + 6)) (run_at n L bs K w)
    run_placed =
        next (number_at bs w.next) (after_level n L bs K w) (number_placed w.next (w.next + 6) w.next level) (λ l after.
        when (ltb L l.value) 1 w.next _ (at_level 1 (omega arith)) (λ shallow.
        when (eqb w.before l.value) 21 w.next _ (at_level 21 (omega arith)) (λ other.
        next (number_at bs l.next) (after_count n L K w l) (number_placed w.next (w.next + 6) l.next (count l after)) (λ k later.
        when (eqb k.value 0) 21 l.next _ (at_fault w.next (w.next + 6) l.next (count l after) 21 (omega arith)) (λ some.
        when (ltb limit (w.count + k.value)) 15 l.next _ (at_fault w.next (w.next + 6) l.next (count l after) 15 (omega arith)) (λ few.
        when (not (fits n L K w.come l.value k.value)) 12 w.next _ (at_level 12 (omega arith)) (λ fit.
        value (whole l after k later))))))))
      where
        level : Within w.next (w.next + 6) w.next
        level = record { near = omega arith; inside = λ there. there }

        at_level : (number : ℕ) → 0 < number → FaultWithin w.next (w.next + 6) number w.next
        at_level = at_fault w.next (w.next + 6) w.next level

        count : (l : Found) → FoundAfter w.next l → Within w.next (w.next + 6) l.next
        count l after = let near = after.near in record { near = omega arith; inside = λ there. after.inside }

        whole : (l : Found) → FoundAfter w.next l → (k : Found) → FoundAfter l.next k → Within w.next (w.next + 6) k.next
        whole l after k later = record { near = omega (arith, after.near, later.near); inside = λ there. later.inside }
