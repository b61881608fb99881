-- Reading a number, byte by byte, and the bytes of a number by their count: one law for each case. Assumes nothing.
use mathlib.Core.Path.{◌≡◌, ap}
use mathlib.Core.Logic.{◌⊎◌, inl, inr, ⊎_elim}
use mathlib.Core.List.{List, [], ◌∷◌}
use Prim.Native.Nat.{ℕ, ◌+◌, ◌-◌, ◌*◌, ◌/◌, ◌%◌, ◌≤◌, ◌<◌}
use native.Mathlib.Decide.{dec_lt}
use native.Mathlib.Omega.{arith}
use Rattle.std.proofs.lemmas.Grind.{common_steps}
use lib.ListN.{length}
use borrow.Author.Tests.{lt-ltb, le-ltb, lt-leb}
use Rattle.paper.specs.Outcome.{accepted}
use Rattle.numbers.specs.Numbers.{bytes_of, found, byte_at, number_at}

-- ---- the number at offset i
module _ (bs : List ℕ) (i : ℕ) where
  pub one_byte : i < length bs → byte_at bs i < 128 → number_at bs i ≡ accepted (found (byte_at bs i) (i + 1))
  one_byte first last = simp (lt-leb (length bs) i first, lt-ltb (byte_at bs i) 128 last)

  module _ (more : 128 ≤ byte_at bs i) where
    pub two_bytes : i + 1 < length bs → (byte_at bs (i + 1) ≡ 0 → ⊥) → byte_at bs (i + 1) < 128
        → number_at bs i ≡ accepted (found (byte_at bs i - 128 + 128 * byte_at bs (i + 1)) (i + 2))
    two_bytes second some last = grind (arith, common_steps)

    pub three_bytes : 128 ≤ byte_at bs (i + 1) → i + 2 < length bs → (byte_at bs (i + 2) ≡ 0 → ⊥) → byte_at bs (i + 2) < 128
        → number_at bs i ≡ accepted (found (byte_at bs i - 128 + 128 * (byte_at bs (i + 1) - 128) + 16384 * byte_at bs (i + 2)) (i + 3))
    three_bytes still third high last = grind (arith, common_steps)

-- ---- the bytes of the number v
module _ (v : ℕ) where
  pub bytes_one : v < 128 → bytes_of v ≡ v ∷ []
  bytes_one small = simp (lt-ltb v 128 small)

  pub bytes_two : 128 ≤ v → v < 16384 → bytes_of v ≡ (v % 128 + 128) ∷ (v / 128) ∷ []
  bytes_two more below = simp (le-ltb v 128 more, lt-ltb v 16384 below)

  pub bytes_three : 128 ≤ v → 16384 ≤ v → bytes_of v ≡ (v % 128 + 128) ∷ (v / 128 % 128 + 128) ∷ (v / 16384) ∷ []
  bytes_three more still = simp (le-ltb v 128 more, le-ltb v 16384 still)

  below_or_not : (bound : ℕ) → (v < bound) ⊎ (bound ≤ v)
  below_or_not bound = decide (dec_lt v bound)
    where
      decide : Dec (v < bound) → (v < bound) ⊎ (bound ≤ v)
      decide (yes below) = inl below
      decide (no not_below) = inr (omega arith)

  pub by_count : {C : Type 0} → (v < 128 → C) → (128 ≤ v → v < 16384 → C) → (128 ≤ v → 16384 ≤ v → C) → C
  by_count one two three = ⊎_elim one (λ more. ⊎_elim (two more) (three more) (below_or_not 16384)) (below_or_not 128)

pub few_bytes : (v : ℕ) → length (bytes_of v) ≤ 3
few_bytes v =
    by_count v
    (λ small. omega (arith, ap length (bytes_one v small)))
    (λ more below. omega (arith, ap length (bytes_two v more below)))
    (λ more still. omega (arith, ap length (bytes_three v more still)))
