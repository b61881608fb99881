-- `begins` meets its contract: the t leaves from i on have one level and carry 2. Assumes nothing.
use Rattle.adaption.proofs.Beginning.{Alike}
use Rattle.adaption.proofs.turn.begins.Given as goal

abbrev pub invariant-loop-t : goal.invariant-loop-t
invariant-loop-t l = Alike l.list.levels l.marks l.i l.t
