-- `put_runs` meets its contract: each turn stores the pair of one run more. Assumes nothing.
use native.Mathlib.Omega.{arith}
use Rattle.writer.specs.Runs.{key_count, runs_left}
use Rattle.writer.proofs.Writing.{leaves_few, pair_leaves}
use Rattle.writer.proofs.Putting.{stored_none, stored_next, stored_done, room_run, room_count}
use Rattle.writer.proofs.file.put_runs.Goals as goal

pub loop-run-init : goal.loop-run-init
loop-run-init c =
    let a = c.args in
    rw c.into_iter-run-iterator.ensures.into_iter_gives
    (stored_none _ a.start a.bytes.now (leaves_few a.levels.now c.requires.levels_len_bound) c.requires.levels_in_bounds)

pub put-at-requires-clause-v_in_bounds : goal.put-at-requires-clause-v_in_bounds
put-at-requires-clause-v_in_bounds c =
    rw c.from.ensures
    (omega (arith, room_run _ _ _ (key_count c.in-Some.run') (runs_left c.next.new.self) _ c.in-Some.ensures.steps c.loop-run.at c.loop-run.bytes c.loop-run.invariant))

pub overflow_cast-run : goal.overflow_cast-run
overflow_cast-run c =
    omega (arith, pair_leaves (key_count c.in-Some.run') (runs_left c.next.new.self) _ c.in-Some.ensures.steps c.loop-run.invariant.leaves)

pub put-at-requires-in-loop-run-clause-v_le_highest : goal.put-at-requires-in-loop-run-clause-v_le_highest
put-at-requires-in-loop-run-clause-v_le_highest c =
    omega (arith, pair_leaves (key_count c.in-Some.run') (runs_left c.next.new.self) _ c.in-Some.ensures.steps c.loop-run.invariant.leaves)

pub put-at-requires-in-loop-run-clause-v_in_bounds : goal.put-at-requires-in-loop-run-clause-v_in_bounds
put-at-requires-in-loop-run-clause-v_in_bounds c =
    room_count _ _ _ (key_count c.in-Some.run') (runs_left c.next.new.self) _ c.in-Some.ensures.steps c.loop-run.at c.loop-run.bytes c.loop-run.invariant
    c.put-at.result (rw c.from.ensures at c.put-at.ensures.next) (rw c.from.ensures at c.put-at.ensures.stored)

pub loop-run-preserved : goal.loop-run-preserved
loop-run-preserved c =
    stored_next _ _ _ (key_count c.in-Some.run') (runs_left c.next.new.self) _ c.in-Some.ensures.steps c.loop-run.at c.loop-run.bytes c.loop-run.invariant
    c.put-at.result (rw c.from.ensures at c.put-at.ensures.next) (rw c.from.ensures at c.put-at.ensures.stored)
    c.put-at-in-loop-run.result c.put-at-in-loop-run.ensures.next c.put-at-in-loop-run.ensures.stored

pub returns : goal.returns
returns c = stored_done _ _ _ _ c.loop-run.at c.loop-run.bytes c.loop-run.invariant c.in-None.ensures.steps.0
