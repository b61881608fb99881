-- `seventh` meets its contract: before each byte, so many semicolons are to come. Assumes nothing.
use mathlib.Core.Path.{◌≡◌, subst⁻¹}
use Prim.Native.Nat.{ℕ, ◌+◌, ◌<◌}
use native.Mathlib.Omega.{arith}
use Rattle.converter.proofs.Seats.{Seat, seat_here, seat_past, seat_over, seat_field, seat_on}
use Rattle.converter.proofs.fill.seventh.Goals as goal
use Rattle.converter.proofs.fill.seventh.Goals.{then-b-eq59+else-left-eq0, else-b-eq59}

some : (k : ℕ) → 0 < k → k ≡ 0 → ⊥
some k low none = omega (arith, none)

pub returns-then-b-eq10-clause-spot : goal.returns-then-b-eq10-clause-spot
returns-then-b-eq10-clause-spot c =
    let l = c.loop-i in
    seat_over l.invariant.1 (some l.left l.invariant.0) c.loop-i-test.true c.if-b-eq10.true

pub returns-then-left-eq0-clause-spot : goal.returns-then-left-eq0-clause-spot
returns-then-left-eq0-clause-spot c =
    let l = c.loop-i in
    seat_here (seat_field l.invariant.1 (some l.left l.invariant.0) c.loop-i-test.true c.if-b-eq59.true) c.if-left-eq0.true

pub loop-i-preserved : goal.loop-i-preserved
loop-i-preserved c =
    let l = c.loop-i in
    let s = c.args.input.now in
    let low = some l.left l.invariant.0 in
    elim c.if-b-eq59.branch [
      | then-b-eq59+else-left-eq0 w ↦
          (omega (arith, w.left-is, w.if-left-eq0.false), subst⁻¹ (λ (k : ℕ). Seat s k (l.i + 1)) w.left-is (seat_field l.invariant.1 low c.loop-i-test.true w.if-b-eq59.true))
      | else-b-eq59 w ↦
          (omega (arith, w.left-is), subst⁻¹ (λ (k : ℕ). Seat s k (l.i + 1)) w.left-is (seat_on l.invariant.1 low c.loop-i-test.true c.if-b-eq10.false w.if-b-eq59.false))
    ]

pub returns-clause-spot : goal.returns-clause-spot
returns-clause-spot c =
    let l = c.loop-i in
    seat_past l.invariant.1 (some l.left l.invariant.0) (omega (arith, c.loop-i-test.false))
