-- `run` meets its contract: each turn lays what is left of a root, or of the run. Assumes nothing.
use Prim.Native.Nat.{◌-◌}
use Rattle.columns.specs.Lent.{held, SameLoans}
use Rattle.reader.proofs.Laying.{Laid}
use Rattle.reader.proofs.fill.run.Given as goal

abbrev pub invariant-loop-done : goal.invariant-loop-done
invariant-loop-done l = record {
  loans : SameLoans l.initial.lent l.lent;
  laid : Laid l.level l.each l.count l.initial.root l.initial.position l.at (held l.initial.lent) l.done l.root l.position (held l.lent);
}

abbrev pub decreases-loop-done : goal.decreases-loop-done
decreases-loop-done l = l.count - l.done
