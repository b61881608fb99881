-- The loops behind the call: one weight more adds to the sum, and may pass the limit; where the next one passes the limit
-- of a share, the count is that share's boundary. Assumes nothing.
use mathlib.Core.Path.{◌≡◌, ap, sym}
use mathlib.Core.Bool.{true}
use mathlib.Core.List.{List}
use Prim.Native.Nat.{ℕ, ◌+◌, ◌-◌, ◌*◌, ◌/◌, ◌≤◌, ◌<◌}
use native.Mathlib.Nat.{mul_comm, le-div_iff_mul-le}
use native.Mathlib.Omega.{arith}
use lib.Dec.{leb}
use lib.ListN.{length, get_or, take, drop}
use borrow.Author.Tests.{leb-true, le-leb}
use Rattle.leaves.proofs.Span.{more_mul}
use Rattle.shares.specs.Shares.{total, boundary}
use Rattle.shares.specs.Inner.{Within, Stopped}
use Rattle.shares.proofs.Largest.{largest_is}
use Rattle.shares.proofs.Sums.{total_next, total_part, total_rises}

-- ---- as far as the limit
module _ {ws : List ℕ} {limit count sum : ℕ} where
  pub reached_next : Within ws limit count sum → count < length ws → sum + get_or ws count 0 ≤ limit
      → Within ws limit (count + 1) (sum + get_or ws count 0)
  reached_next r inside under =
      record { within = omega arith; summed = omega (arith, total_next ws count inside, r.summed); under = under }

  -- up to the end of a part that weighs w
  pub reached_part : Within ws limit count sum → (end w : ℕ) → count ≤ end → end ≤ length ws → w ≡ total (take (end - count) (drop count ws))
      → sum + w ≤ limit → Within ws limit end (sum + w)
  reached_part r end w rising inside weighs under =
      record { within = inside; summed = omega (arith, total_part ws count end rising, r.summed); under = under }

  -- any count whose sum is within the limit is within the count
  pub stopped_largest : Stopped ws limit count sum → (j : ℕ) → j ≤ length ws → total (take j ws) ≤ limit → j ≤ count
  stopped_largest t j inside under = let not_more : count + 1 ≤ j → ⊥ = past in omega arith
    where
      past : count + 1 ≤ j → ⊥
      past more =
          let before : count < length ws = omega arith in
          omega (arith, t.next_over before, total_next ws count before, t.reached.summed, total_rises ws (count + 1) j more)

-- ---- the limit of share s
module _ (P : ℕ) {ws : List ℕ} (some_share : 0 < P) (s : ℕ) {count sum : ℕ} where
  pub stopped_boundary : Stopped ws (s * total ws / P) count sum → count ≡ boundary P ws s
  stopped_boundary t =
      let part = ap (λ (w : ℕ). P * w) t.reached.summed in
      let under : P * total (take count ws) ≤ s * total ws = omega (arith, (le-div_iff_mul-le some_share).0 t.reached.under) in
      sym
      (largest_is (λ j. leb (P * total (take j ws)) (s * total ws)) (length ws) count
      record { within = t.reached.within; passes = le-leb _ _ under; none_above = most })
    where
      most : (j : ℕ) → j ≤ length ws → leb (P * total (take j ws)) (s * total ws) ≡ true → j ≤ count
      most j inside passes =
          stopped_largest t j inside
          ((le-div_iff_mul-le some_share).1 (rw mul_comm (leb-true _ _ passes)))

  -- what a share reaches, the next share has reached
  pub reached_on : (W : ℕ) → Within ws (s * W / P) count sum → Within ws ((s + 1) * W / P) count sum
  reached_on W r =
      let part = (le-div_iff_mul-le some_share).0 r.under in
      record { within = r.within; summed = r.summed; under = (le-div_iff_mul-le some_share).1 (omega (arith, more_mul s W)) }
