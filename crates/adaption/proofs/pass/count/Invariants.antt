-- `count` meets its contract: the turns before leaf i have made so many leaves. Assumes nothing.
use Rattle.std.proofs.Common.{◌-◌, ◌^◌}
use lib.Pow.{pow_pos}
use Rattle.leaves.specs.Leaves.{leaves, room}
use Rattle.adaption.proofs.Passing.{Along}
use Rattle.adaption.proofs.pass.count.Given as goal

abbrev pub invariant-loop-i : goal.invariant-loop-i
invariant-loop-i l = Along (2 ^ l.bits) (pow_pos l.bits) (leaves l.list) l.marks l.i l.size

abbrev pub decreases-loop-i : goal.decreases-loop-i
decreases-loop-i l = room l.list - l.i
