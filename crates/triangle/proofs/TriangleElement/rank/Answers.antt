-- `Triangle::rank` meets its contract: each way out is one case of the call. Assumes nothing.
use mathlib.Core.Path.{subst⁻¹}
use Prim.Native.Nat.{ℕ, suc, ◌+◌, ◌*◌, ◌/◌, ◌^◌, ◌≤◌}
use native.Mathlib.Omega.{arith}
use lib.Pow.{pow_mono}
use Rattle.tree.specs.Words.{position_at}
use Rattle.tree.specs.Anchors.{side}
use Rattle.tree.proofs.Walk.{digit_shifted, sum_below}
use Rattle.triangle.specs.Elements.{triangle, triangle_to}
use Rattle.triangle.specs.Lawful.{known}
use Rattle.triangle.proofs.Units.{unit}
use Rattle.triangle.proofs.Loops.{Climbed, climb_digit, climb_again, climb_end}
use Rattle.triangle.proofs.TriangleElement.rank.Goals as goal

pub overflow_add-sum : goal.overflow_add-sum
unfolding triangle_to
overflow_add-sum c =
    let a = c.args in
    let shallow = (known 21 a.self c.requires).shallow in
    let digit = climb_digit (position_at triangle a.self.level (unit 21 a.self.level (a.self.x / side 21 a.self.level) (a.self.y / side 21 a.self.level) a.self.kind)) a.self.level c.loop-i.sum c.loop-i.i c.loop-i.x c.loop-i.y c.loop-i.kind c.loop-i.invariant (known 21 a.self c.requires).shallow c.slot_of-p.result c.slot_of-p.ensures in
    let shifted = digit_shifted 2 c.slot_of-p.result.number c.loop-i.i digit (omega arith) in
    let sum = sum_below 2 c.loop-i.sum c.slot_of-p.result.number c.loop-i.i c.loop-i.invariant.low digit in
    let fits : 2 ^ (2 * suc c.loop-i.i) ≤ 2 ^ 63 = pow_mono {i = 2 * suc c.loop-i.i} {j = 63} (omega arith) in
    omega arith

pub loop-i-preserved : goal.loop-i-preserved
unfolding triangle_to
loop-i-preserved c =
    let a = c.args in
    let shallow = (known 21 a.self c.requires).shallow in
    let digit = climb_digit (position_at triangle a.self.level (unit 21 a.self.level (a.self.x / side 21 a.self.level) (a.self.y / side 21 a.self.level) a.self.kind)) a.self.level c.loop-i.sum c.loop-i.i c.loop-i.x c.loop-i.y c.loop-i.kind c.loop-i.invariant (known 21 a.self c.requires).shallow c.slot_of-p.result c.slot_of-p.ensures in
    let shifted = digit_shifted 2 c.slot_of-p.result.number c.loop-i.i digit (omega arith) in
    subst⁻¹ (λ (m : ℕ). Climbed (position_at triangle a.self.level (unit 21 a.self.level (a.self.x / side 21 a.self.level) (a.self.y / side 21 a.self.level) a.self.kind)) a.self.level (c.loop-i.sum + m) (c.loop-i.i + 1) (c.loop-i.x / 2) (c.loop-i.y / 2) c.slot_of-p.result.kind) shifted
    (climb_again (position_at triangle a.self.level (unit 21 a.self.level (a.self.x / side 21 a.self.level) (a.self.y / side 21 a.self.level) a.self.kind)) a.self.level c.loop-i.sum c.loop-i.i c.loop-i.x c.loop-i.y c.loop-i.kind c.loop-i.invariant (known 21 a.self c.requires).shallow c.slot_of-p.result c.slot_of-p.ensures c.loop-i-test.true)

pub returns : goal.returns
unfolding triangle_to
returns c =
    climb_end c.args.self c.loop-i.sum c.loop-i.i c.loop-i.x c.loop-i.y c.loop-i.kind (known 21 c.args.self c.requires) c.loop-i.invariant c.loop-i-test.false
