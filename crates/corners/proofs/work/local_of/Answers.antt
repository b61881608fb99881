-- `local_of` meets its contract: an element's corners lie none or one side from its anchor, within the edge. Assumes nothing.
use mathlib.Core.Path.{subst⁻¹}
use Rattle.std.proofs.Common.{arith}
use native.Mathlib.Nat.{mod-lt}
use lib.Dec.{lit<}
use Rattle.prism.specs.Points.{InRoot}
use Rattle.prism.proofs.Inside.{corner_in_root}
use Rattle.corners.proofs.LocalCorners.{room_at, reached, found}
use Rattle.corners.proofs.work.local_of.Goals as goal

pub sides-requires : goal.sides-requires
sides-requires c = ((room_at c.args.e c.side-h.result c.side-h.ensures c.requires.0).two_types, mod-lt c.args.corner (lit< tt))

pub overflow_add-x : goal.overflow_add-x
overflow_add-x c = rw c.from-s.ensures (omega (arith, (reached c.args.e c.args.corner c.side-h.ensures c.requires c.sides.ensures.narrow).to_x))

pub overflow_add-y : goal.overflow_add-y
overflow_add-y c = rw c.from-s.ensures (omega (arith, (reached c.args.e c.args.corner c.side-h.ensures c.requires c.sides.ensures.narrow).to_y))

pub overflow_add-z : goal.overflow_add-z
overflow_add-z c = rw c.from.ensures (omega (arith, (reached c.args.e c.args.corner c.side-h.ensures c.requires c.sides.ensures.narrow).to_z))

pub invariant_of-result : goal.invariant_of-result
invariant_of-result c =
    let inside = subst⁻¹ (InRoot 21) (found c.args.e c.args.corner c.side-h.result c.sides.result c.side-h.ensures c.sides.ensures)
    (corner_in_root 21 c.args.e c.args.corner c.requires.0 c.requires.1) in
    record { ordered = rw c.from-s.ensures inside.in_plan.ordered; across = rw c.from-s.ensures inside.in_plan.across; upwards = rw c.from.ensures inside.upwards }
