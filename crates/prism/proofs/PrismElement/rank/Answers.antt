-- `Prism::rank` meets its contract: the loop goes up by one digit a turn. Assumes nothing.
use mathlib.Core.Path.{subst⁻¹}
use Prim.Native.Nat.{ℕ, suc, ◌+◌, ◌*◌, ◌/◌, ◌%◌, ◌^◌, ◌≤◌}
use native.Mathlib.Omega.{arith}
use lib.Pow.{pow_mono}
use Rattle.tree.specs.Words.{position_at}
use Rattle.tree.specs.Anchors.{side}
use Rattle.tree.proofs.Walk.{digit_shifted, sum_below}
use Rattle.prism.specs.Elements.{prism, prism_to}
use Rattle.prism.specs.Lawful.{grids}
use Rattle.prism.proofs.Loops.{Climbed, climb_digit, climb_again, climb_end, unit}
use Rattle.prism.proofs.PrismElement.rank.Goals as goal

pub overflow_add-sum-in-loop-i : goal.overflow_add-sum-in-loop-i
unfolding prism_to
overflow_add-sum-in-loop-i c =
    let a = c.args in
    let shallow = (grids 21 a.self c.requires).0.shallow in
    let digit = climb_digit (position_at prism a.self.level (unit a.self.level (a.self.x / side 21 a.self.level) (a.self.y / side 21 a.self.level) (a.self.z / side 21 a.self.level) a.self.kind)) a.self.level c.loop-i.sum c.loop-i.i c.loop-i.x c.loop-i.y c.loop-i.z c.loop-i.kind c.loop-i.invariant (grids 21 a.self c.requires).0.shallow c.slot_of-p.result c.slot_of-p.ensures in
    let shifted = digit_shifted 3 (4 * (c.loop-i.z % 2) + c.slot_of-p.result.number) c.loop-i.i digit (omega arith) in
    let sum = sum_below 3 c.loop-i.sum (4 * (c.loop-i.z % 2) + c.slot_of-p.result.number) c.loop-i.i c.loop-i.invariant.low digit in
    let fits : 2 ^ (3 * suc c.loop-i.i) ≤ 2 ^ 63 = pow_mono {i = 3 * suc c.loop-i.i} {j = 63} (omega arith) in
    omega arith

pub loop-i-preserved : goal.loop-i-preserved
unfolding prism_to
loop-i-preserved c =
    let a = c.args in
    let shallow = (grids 21 a.self c.requires).0.shallow in
    let digit = climb_digit (position_at prism a.self.level (unit a.self.level (a.self.x / side 21 a.self.level) (a.self.y / side 21 a.self.level) (a.self.z / side 21 a.self.level) a.self.kind)) a.self.level c.loop-i.sum c.loop-i.i c.loop-i.x c.loop-i.y c.loop-i.z c.loop-i.kind c.loop-i.invariant (grids 21 a.self c.requires).0.shallow c.slot_of-p.result c.slot_of-p.ensures in
    let shifted = digit_shifted 3 (4 * (c.loop-i.z % 2) + c.slot_of-p.result.number) c.loop-i.i digit (omega arith) in
    subst⁻¹ (λ (m : ℕ). Climbed (position_at prism a.self.level (unit a.self.level (a.self.x / side 21 a.self.level) (a.self.y / side 21 a.self.level) (a.self.z / side 21 a.self.level) a.self.kind)) a.self.level (c.loop-i.sum + m) (c.loop-i.i + 1) (c.loop-i.x / 2) (c.loop-i.y / 2) (c.loop-i.z / 2) c.slot_of-p.result.kind) shifted
    (climb_again (position_at prism a.self.level (unit a.self.level (a.self.x / side 21 a.self.level) (a.self.y / side 21 a.self.level) (a.self.z / side 21 a.self.level) a.self.kind)) a.self.level c.loop-i.sum c.loop-i.i c.loop-i.x c.loop-i.y c.loop-i.z c.loop-i.kind c.loop-i.invariant (grids 21 a.self c.requires).0.shallow c.slot_of-p.result c.slot_of-p.ensures c.loop-i-test.true)

pub returns : goal.returns
unfolding prism_to
returns c =
    climb_end c.args.self c.loop-i.sum c.loop-i.i c.loop-i.x c.loop-i.y c.loop-i.z c.loop-i.kind c.requires c.loop-i.invariant c.loop-i-test.false
