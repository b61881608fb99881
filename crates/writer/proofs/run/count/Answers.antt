-- `count` meets its contract: the runs so far, and those that are left, are all. Assumes nothing.
use native.Mathlib.Omega.{arith}
use Rattle.numbers.proofs.Cases.{few_bytes}
use Rattle.writer.specs.Runs.{key_count, runs_left}
use Rattle.writer.proofs.Writing.{pair_leaves, along_none, along_next, along_few, along_done}
use Rattle.writer.proofs.run.count.Goals as goal

pub loop-run-init : goal.loop-run-init
loop-run-init c = rw c.into_iter-run-iterator.ensures.into_iter_gives (along_none c.args.levels.now c.requires)

pub overflow_add-runs : goal.overflow_add-runs
overflow_add-runs c = omega (arith, along_few c.args.levels.now _ c.loop-run.runs c.loop-run.bytes c.requires c.loop-run.invariant)

pub overflow_cast-run : goal.overflow_cast-run
overflow_cast-run c =
    omega (arith, pair_leaves (key_count c.in-Some.run') (runs_left c.next.new.self) _ c.in-Some.ensures.steps c.loop-run.invariant.leaves)

pub overflow_add-bytes-in-loop-run : goal.overflow_add-bytes-in-loop-run
overflow_add-bytes-in-loop-run c =
    omega (
      arith,
      along_few c.args.levels.now _ c.loop-run.runs c.loop-run.bytes c.requires c.loop-run.invariant,
      c.size.ensures,
      c.size-in-loop-run.ensures,
      few_bytes c.from.result,
      few_bytes c.in-Some.run'.count,
    )

pub loop-run-preserved : goal.loop-run-preserved
loop-run-preserved c =
    rw (c.size.ensures, c.size-in-loop-run.ensures, c.from.ensures)
    (along_next (key_count c.in-Some.run') (runs_left c.next.new.self) _ c.in-Some.ensures.steps _ _ _ c.loop-run.invariant)

pub returns : goal.returns
returns c = along_done c.args.levels.now _ c.loop-run.runs c.loop-run.bytes c.loop-run.invariant c.in-None.ensures.steps.0
