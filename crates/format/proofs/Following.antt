-- The leaves that follow, as an outcome: the first run's, then those after it; or the first fault. Assumes nothing.
use mathlib.Core.Path.{◌≡◌, refl, ap, ◌∙◌, sym}
use mathlib.Core.List.{List, ◌++◌}
use Prim.Native.Nat.{ℕ, zero, suc, ◌+◌}
use native.Mathlib.Nat.{add-zero}
use native.Mathlib.Omega.{arith}
use lib.ListN.{length, length-append}
use Rattle.paper.specs.Outcome.{Outcome, accepted, refused, mapped, and_then, passed}
use Rattle.paper.proofs.Scan.{never}
use Rattle.leaves.specs.Leaves.{Leaf}
use Rattle.format.specs.Reading.{leaves_from, FoundRun, Walk, Sounded, stopped, preceded, go_on, leaves_if, after_last, keep, run_at, sound_from}
use Rattle.format.proofs.Runs.{leaves_count}

module _ (n L : ℕ) (bs : List ℕ) (K : ℕ) where
  abbrev pub runs_at : ℕ → Walk → Outcome (List Leaf)
  runs_at R w = leaves_if (sound_from n L bs K R w)

  -- what follows a run
  abbrev pub run_step : ℕ → Walk → FoundRun → Outcome (List Leaf)
  run_step R w r = mapped (λ (vs : List Leaf). leaves_from n L w.come r.level r.count ++ vs) (runs_at R (keep n L w r))

  before_them : (us : List Leaf) (s : Sounded) → leaves_if (preceded us s) ≡ mapped (λ (vs : List Leaf). us ++ vs) (leaves_if s)
  before_them us s = by s.fault
    where
      by : (o : Outcome (Unit {0})) → mapped (λ (u : Unit {0}). us ++ s.leaves) o ≡ mapped (λ (vs : List Leaf). us ++ vs) (mapped (λ (u : Unit {0}). s.leaves) o)
      by (accepted u) = refl
      by (refused number place) = refl

  pub apart : (R : ℕ) (w : Walk) → runs_at (suc R) w ≡ and_then (run_at n L bs K w) (run_step R w)
  unfolding sound_from
  apart R w = by (run_at n L bs K w)
    where
      by : (o : Outcome FoundRun)
          → leaves_if (go_on w o (λ (r : FoundRun). preceded (leaves_from n L w.come r.level r.count) (sound_from n L bs K R (keep n L w r)))) ≡ and_then o (run_step R w)
      by (accepted r) = before_them (leaves_from n L w.come r.level r.count) (sound_from n L bs K R (keep n L w r))
      by (refused number place) = refl

  -- ---- one run more, a fault, the end
  pub sound_more : (R : ℕ) (w : Walk) (r : FoundRun) → run_at n L bs K w ≡ accepted r
      → sound_from n L bs K (suc R) w ≡ preceded (leaves_from n L w.come r.level r.count) (sound_from n L bs K R (keep n L w r))
  unfolding sound_from
  sound_more R w r is =
      ap (λ (o : Outcome FoundRun). go_on w o (λ (x : FoundRun). preceded (leaves_from n L w.come x.level x.count) (sound_from n L bs K R (keep n L w x)))) is

  pub sound_stops : (R : ℕ) (w : Walk) (number place : ℕ) → run_at n L bs K w ≡ refused number place
      → sound_from n L bs K (suc R) w ≡ stopped w (refused number place)
  unfolding sound_from
  sound_stops R w number place is =
      ap (λ (o : Outcome FoundRun). go_on w o (λ (x : FoundRun). preceded (leaves_from n L w.come x.level x.count) (sound_from n L bs K R (keep n L w x)))) is

  pub sound_ends : (w : Walk) → sound_from n L bs K 0 w ≡ stopped w (after_last bs K w)
  unfolding sound_from
  sound_ends w = refl

  -- ---- how many leaves
  pub leaves_kept : (R : ℕ) (w : Walk) → (sound_from n L bs K R w).walk.count ≡ w.count + length (sound_from n L bs K R w).leaves
  unfolding sound_from
  leaves_kept zero w = sym (add-zero w.count)
  leaves_kept (suc R) w = by (run_at n L bs K w) (λ r. leaves_kept R (keep n L w r))
    where
      onward : FoundRun → Sounded
      onward r = preceded (leaves_from n L w.come r.level r.count) (sound_from n L bs K R (keep n L w r))

      by : (o : Outcome FoundRun)
          → ((r : FoundRun) → (sound_from n L bs K R (keep n L w r)).walk.count ≡ w.count + r.count + length (sound_from n L bs K R (keep n L w r)).leaves)
          → (go_on w o onward).walk.count ≡ w.count + length (go_on w o onward).leaves
      by (refused number place) later = sym (add-zero w.count)
      by (accepted r) later =
          let us = leaves_from n L w.come r.level r.count in
          omega (arith, later r, length-append us (sound_from n L bs K R (keep n L w r)).leaves, leaves_count n L w.come r.level r.count)

  -- ---- where every run is kept
  pub first_kept : (R : ℕ) (w : Walk) → (sound_from n L bs K (suc R) w).walk.runs ≡ w.runs + suc R → (r : FoundRun) × (run_at n L bs K w ≡ accepted r)
  first_kept R w all = by (run_at n L bs K w) refl
    where
      by : (o : Outcome FoundRun) → run_at n L bs K w ≡ o → (r : FoundRun) × (run_at n L bs K w ≡ accepted r)
      by (accepted r) is = (r, is)
      by (refused number place) is = absurd (omega (arith, all, ap (λ (s : Sounded). s.walk.runs) (sound_stops R w number place is)))

  pub all_kept : (R : ℕ) (w : Walk) → (sound_from n L bs K R w).fault ≡ passed → (sound_from n L bs K R w).walk.runs ≡ w.runs + R
  all_kept zero w sound = ap (λ (s : Sounded). s.walk.runs) (sound_ends w) ∙ sym (add-zero w.runs)
  all_kept (suc R) w sound = by (run_at n L bs K w) refl (λ r. all_kept R (keep n L w r))
    where
      by : (o : Outcome FoundRun) → run_at n L bs K w ≡ o
          → ((r : FoundRun) → (sound_from n L bs K R (keep n L w r)).fault ≡ passed → (sound_from n L bs K R (keep n L w r)).walk.runs ≡ w.runs + 1 + R)
          → (sound_from n L bs K (suc R) w).walk.runs ≡ w.runs + suc R
      by (accepted r) is later =
          let more = sound_more R w r is in
          let rest = later r (sym (ap (λ (s : Sounded). s.fault) more) ∙ sound) in
          omega (arith, ap (λ (s : Sounded). s.walk.runs) more, rest)
      by (refused number place) is later = never tt number place (sym (ap (λ (s : Sounded). s.fault) (sound_stops R w number place is)) ∙ sound)
