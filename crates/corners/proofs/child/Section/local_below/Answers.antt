-- `local_below` meets its contract: both steps together stay within the parent's side. Assumes nothing.
use native.Mathlib.Omega.{arith}
use Rattle.corners.proofs.Children.{two_types, in_reach, is_corner, in_root}
use Rattle.corners.proofs.child.Section.local_below.Goals as goal

pub overflow_mul-digit : goal.overflow_mul-digit
overflow_mul-digit c = let a = c.args in omega (arith, two_types a.self a.parent a.number c.requires)

pub overflow_add-digit : goal.overflow_add-digit
overflow_add-digit c = let a = c.args in omega (arith, two_types a.self a.parent a.number c.requires)

pub overflow_shr-digit : goal.overflow_shr-digit
overflow_shr-digit c = let a = c.args in omega (arith, two_types a.self a.parent a.number c.requires)

pub overflow_mul-x : goal.overflow_mul-x
overflow_mul-x c = let a = c.args in omega (arith, (in_reach a.self a.parent a.number c.requires).step_x)

pub overflow_add-x : goal.overflow_add-x
overflow_add-x c = let a = c.args in omega (arith, (in_reach a.self a.parent a.number c.requires).to_x)

pub overflow_mul-y : goal.overflow_mul-y
overflow_mul-y c = let a = c.args in omega (arith, (in_reach a.self a.parent a.number c.requires).step_y)

pub overflow_add-y : goal.overflow_add-y
overflow_add-y c = let a = c.args in omega (arith, (in_reach a.self a.parent a.number c.requires).to_y)

pub overflow_mul-z : goal.overflow_mul-z
overflow_mul-z c = let a = c.args in rw c.from.ensures (omega (arith, (in_reach a.self a.parent a.number c.requires).step_z))

pub overflow_add-z : goal.overflow_add-z
overflow_add-z c = let a = c.args in rw c.from.ensures (omega (arith, (in_reach a.self a.parent a.number c.requires).to_z))

pub returns : goal.returns
returns c = let a = c.args in rw c.from.ensures (is_corner a.self a.parent a.number c.requires)

pub invariant_of-result : goal.invariant_of-result
invariant_of-result c =
    let inside = in_root c.args.self c.args.parent c.args.number c.requires in
    record { ordered = inside.in_plan.ordered; across = inside.in_plan.across; upwards = rw c.from.ensures inside.upwards }
