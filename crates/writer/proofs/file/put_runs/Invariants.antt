-- `put_runs` meets its contract: each turn stores the pair of one run more. Assumes nothing.
use Rattle.format.specs.File.{runs_in}
use Rattle.writer.specs.Runs.{runs_left}
use Rattle.writer.proofs.Putting.{Stored}
use Rattle.writer.proofs.file.put_runs.Given as goal

abbrev pub invariant-loop-run : goal.invariant-loop-run
invariant-loop-run l = Stored (runs_in l.levels) (runs_left l.run-iterator) l.start l.initial.bytes l.at l.bytes
