-- `count` meets its contract: the runs so far, and those that are left, are all. Assumes nothing.
use Rattle.format.specs.File.{runs_in}
use Rattle.writer.specs.Runs.{runs_left}
use Rattle.writer.proofs.Writing.{Along}
use Rattle.writer.proofs.run.count.Given as goal

abbrev pub invariant-loop-run : goal.invariant-loop-run
invariant-loop-run l = Along (runs_in l.levels) (runs_left l.run-iterator) l.runs l.bytes
