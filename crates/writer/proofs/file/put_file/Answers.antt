-- `put_file` meets its contract: the tag, K, R and the pairs, each stored where the one before it ended. Assumes nothing.
use native.Mathlib.Omega.{arith}
use Rattle.writer.proofs.Writing.{level_runs_few}
use Rattle.writer.proofs.Putting.{file_put}
use Rattle.writer.proofs.file.put_file.Goals as goal

pub put-start-requires-clause-v_le_highest : goal.put-start-requires-clause-v_le_highest
put-start-requires-clause-v_le_highest c = omega (arith, c.requires, level_runs_few c.args.levels.now)

pub returns : goal.returns
returns c =
    let a = c.args in
    file_put a.k a.runs a.levels.now a.bytes.now c.requires.runs_value c.requires.levels_in_bounds c.put-at.result c.put-start.result
    (rw c.from.ensures at c.put-at.ensures.next) c.put-start.ensures.next
    (rw (c.from.ensures, c.copy_from_slice.ensures.after) at c.put-at.ensures.stored) c.put-start.ensures.stored c.put_runs.ensures
