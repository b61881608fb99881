-- `write` meets its contract: the turns before leaf i have written the first leaves of the result. Assumes nothing.
use Rattle.std.proofs.Common.{◌-◌, ◌^◌}
use lib.Pow.{pow_pos}
use Rattle.leaves.specs.Leaves.{leaves, room}
use Rattle.columns.specs.Lent.{held, SameLoans}
use Rattle.adaption.proofs.Passing.{Underway}
use Rattle.adaption.proofs.pass.write.Given as goal

abbrev pub invariant-loop-i : goal.invariant-loop-i
invariant-loop-i l = record {
  loans : SameLoans l.initial.lent l.lent;
  underway : Underway (2 ^ l.bits) (pow_pos l.bits) (leaves l.list) l.marks (held l.initial.lent) l.i l.size (held l.lent);
}

abbrev pub decreases-loop-i : goal.decreases-loop-i
decreases-loop-i l = room l.list - l.i
