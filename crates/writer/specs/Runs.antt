-- Inner contracts: the runs that an iterator over levels has left. A reader of the promises may skip this file. Definitions only.
--
--   key_count r   the run that the code's Run stands for
--   runs_left it  the runs of the levels that are left
--
-- Assumes nothing.
use Rattle.std.specs.Prelude.{List}
use Rattle.format.specs.File as file
use Rattle.format.specs.File.{run, runs_in}
use Rattle.writer.specs.declared.run.Run.{Run}
use Rattle.writer.specs.declared.run.Runs.{Runs}

abbrev pub key_count : Run → file.Run
key_count r = run r.level r.count

abbrev pub runs_left : Runs → List file.Run
runs_left it = runs_in it.0.now
