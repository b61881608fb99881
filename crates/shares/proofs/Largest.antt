-- The largest number that passes a test is the first that passes it, from above: what `largest` finds, and that there is no other.
-- Assumes nothing.
use mathlib.Core.Path.{◌≡◌, refl, ap, ◌∙◌, sym}
use mathlib.Core.Bool.{Bool, true, false, cond, true≢false}
use Prim.Native.Nat.{ℕ, zero, suc, ◌≤◌}
use native.Mathlib.Omega.{arith}
use Rattle.shares.specs.Shares.{largest}

-- j is the largest number up to m that passes the test
pub record Largest (m : ℕ) (test : ℕ → Bool) (j : ℕ) : Type 0 where
  pub within : j ≤ m
  pub passes : test j ≡ true
  pub none_above : (i : ℕ) → i ≤ m → test i ≡ true → i ≤ j

module _ (test : ℕ → Bool) where
  -- ---- one number more
  not_the_last : (m i : ℕ) → test (suc m) ≡ false → i ≤ suc m → test i ≡ true → i ≤ m
  not_the_last m i fails inside passes =
      let other : i ≡ suc m → ⊥ = λ same. true≢false (sym passes ∙ ap test same ∙ fails) in
      omega arith

  largest_here : (m : ℕ) → test (suc m) ≡ true → Largest (suc m) test (suc m)
  largest_here m passes = record { within = omega arith; passes = passes; none_above = λ i inside _. inside }

  largest_before : (m j : ℕ) → test (suc m) ≡ false → Largest m test j → Largest (suc m) test j
  largest_before m j fails l =
      record {
        within = omega (arith, l.within);
        passes = l.passes;
        none_above = λ i inside passes. l.none_above i (not_the_last m i fails inside passes) passes;
      }

  -- ---- where some number i passes
  pub largest_of : (m i : ℕ) → i ≤ m → test i ≡ true → Largest m test (largest m test)
  unfolding largest
  largest_of zero i inside passes =
      let none : i ≡ 0 = omega arith in
      record { within = omega arith; passes = ap test (sym none) ∙ passes; none_above = λ k below _. below }
  largest_of (suc m) i inside passes = by (test (suc m)) refl (λ before. largest_of m i before passes)
    where
      by : (t : Bool) → test (suc m) ≡ t → (i ≤ m → Largest m test (largest m test)) → Largest (suc m) test (cond t (suc m) (largest m test))
      by true here below = largest_here m here
      by false here below = largest_before m (largest m test) here (below (not_the_last m i here inside passes))

  pub largest_is : (m j : ℕ) → Largest m test j → largest m test ≡ j
  largest_is m j l =
      let o = largest_of m j l.within l.passes in
      omega (arith, l.none_above (largest m test) o.within o.passes, o.none_above j l.within l.passes)
