-- What a passed or failed test makes of a call: one law for each way out. Assumes nothing.
use mathlib.Core.Path.{◌≡◌, refl}
use mathlib.Core.Bool.{◌||◌, true≢false, Bool, true, false}
use Prim.Native.Nat.{ℕ, suc}
use native.Mathlib.Omega.{arith}
use Rattle.paper.specs.Outcome.{Outcome, refused, refuse_when_at, fault_when}

pub refused_by : {A : Type 0} (test : Bool) (number place : ℕ) (rest : Outcome A) → test ≡ true → refuse_when_at test number place rest ≡ refused number place
refused_by test number place rest holds = simp holds

pub passed_by : {A : Type 0} (test : Bool) (number place : ℕ) (rest : Outcome A) → test ≡ false → refuse_when_at test number place rest ≡ rest
passed_by test number place rest fails = simp fails

-- no fault: the test failed, and neither is there one after it
pub no_fault : (test : Bool) (number rest : ℕ) → fault_when test (suc number) rest ≡ 0 → (test ≡ false) × (rest ≡ 0)
no_fault true number rest h = absurd (omega arith)
no_fault false number rest h = (refl, h)

-- neither of two tests holds
pub or_none : (a b : Bool) → (a || b) ≡ false → (a ≡ false) × (b ≡ false)
or_none true b h = absurd (true≢false h)
or_none false b h = (refl, h)
