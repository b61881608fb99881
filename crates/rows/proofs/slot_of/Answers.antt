-- `slot_of` works out what the definitions say, by whether the two bits agree. Assumes nothing.
use mathlib.Core.Path.{◌≡◌}
use Prim.Native.Nat.{ℕ, ◌%◌, ◌<◌}
use native.Mathlib.Nat.{mod-lt}
use native.Mathlib.Omega.{arith}
use lib.Dec.{lit<}
use Rattle.rows.proofs.Siblings.{slot_agree, slot_differ}
use Rattle.rows.proofs.slot_of.Goals as goal

bit : (n : ℕ) → n % 2 < 2
bit n = mod-lt n (lit< tt)

pub returns-then-x_bit-y_bit : goal.returns-then-x_bit-y_bit
returns-then-x_bit-y_bit c =
    let a = c.args in
    let agree : a.x % 2 ≡ a.y % 2 = omega (arith, c.if-x_bit-y_bit.true) in
    slot_agree (a.x % 2) (a.y % 2) (a.kind % 2) (bit a.x) (bit a.y) (bit a.kind) agree

pub returns : goal.returns
returns c =
    let a = c.args in
    let differ : a.x % 2 ≡ a.y % 2 → ⊥ = λ e. omega (arith, c.if-x_bit-y_bit.false) in
    slot_differ (a.x % 2) (a.y % 2) (a.kind % 2) (bit a.x) (bit a.y) (bit a.kind) differ
