-- A check of the leaves by their numbers, as a loop meets them: none so far, none at all. Assumes nothing.
use mathlib.Core.Path.{◌≡◌, refl, ◌∙◌}
use Prim.Native.Nat.{ℕ, zero, suc, ◌+◌, ◌-◌, ◌<◌}
use native.Mathlib.Omega.{arith}
use Rattle.paper.specs.Outcome.{passed, checks, scan, rows}
use Rattle.paper.proofs.Scan.{scan_step, fault_none}
use Rattle.marks.specs.Marks.{numbers}

module _ (fault : ℕ → ℕ) (m : ℕ) where
  -- the leaves before number i are without fault
  abbrev pub SoundTo : ℕ → Type 0
  SoundTo i = checks fault (numbers m) ≡ scan fault i (rows (λ j. j) i (m - i)) passed

  pub sound_next : (i : ℕ) → i < m → fault i ≡ 0 → SoundTo i → SoundTo (i + 1)
  sound_next i inside none so_far = so_far ∙ scan_step fault (λ j. j) m i passed inside none

-- a check in which no number has a fault
pub all_sound : (fault : ℕ → ℕ) (m i k : ℕ) → i + k ≡ m → ((j : ℕ) → j < m → fault j ≡ 0) → scan fault i (rows (λ j. j) i k) passed ≡ passed
all_sound fault m i zero e none = refl
all_sound fault m i (suc k) e none =
    fault_none (fault i) i (scan fault (suc i) (rows (λ j. j) (suc i) k) passed) (none i (omega arith)) ∙ all_sound fault m (suc i) k (omega arith) none
