-- `write` meets its contract: each way out is one case of the call. Assumes nothing.
use mathlib.Core.Path.{ap, ◌∙◌, sym}
use native.Mathlib.Omega.{arith}
use Rattle.std.proofs.lemmas.Result.{err_from_is_err_and}
use Rattle.paper.specs.Memory.{written}
use Rattle.leaves.specs.Leaves.{Columns}
use Rattle.writer.specs.Inner.{level_file, Counted}
use Rattle.writer.proofs.Filed.{leaves_refused, size_few, no_room_14, file_written}
use Rattle.writer.proofs.write.Goals as goal
use Rattle.writer.proofs.write.Goals.{After-count-runs}

pub returns-in_err-check_list : goal.returns-in_err-check_list
returns-in_err-check_list c =
    let p = err_from_is_err_and c.from_residual.result c.from_residual.ensures.1 in
    rw (p.1, p.2) (leaves_refused c.args.k c.args.list.now c.args.bytes.now _ (sym c.in_err-check_list.ensures))

-- the runs, of the list's own levels
runs_counted : (c : After-count-runs) → Counted c.args.list.now.levels c.count-runs.result.runs c.count-runs.result.bytes
runs_counted c = rw (ap (λ (cs : Columns). cs.levels) c.list.view_is) at c.count-runs.ensures

pub overflow_add-size-3 : goal.overflow_add-size-3
overflow_add-size-3 c =
    let a = c.args in
    omega (
      arith,
      size_few a.k a.list.now a.bytes.now (sym c.in_ok-check_list.ensures) _ _ (runs_counted (goal.at.overflow_add-size-3 c).After-count-runs) c.size.result c.size-2.result (rw c.from.ensures at c.size.ensures) c.size-2.ensures,
    )

pub returns-then-bytes-size : goal.returns-then-bytes-size
returns-then-bytes-size c =
    let a = c.args in
    no_room_14 a.k a.list.now a.bytes.now (sym c.in_ok-check_list.ensures) _ _ (runs_counted (goal.at.returns-then-bytes-size c).After-count-runs) c.size.result c.size-2.result (rw c.from.ensures at c.size.ensures) c.size-2.ensures
    (omega (arith, c.if-bytes-size.true))

pub returns : goal.returns
returns c =
    let a = c.args in
    file_written a.k a.list.now a.bytes.now (sym c.in_ok-check_list.ensures) _ _ (runs_counted (goal.at.returns c).After-count-runs) c.size.result c.size-2.result (rw c.from.ensures at c.size.ensures) c.size-2.ensures
    (omega (arith, c.if-bytes-size.false))
    (c.put_file.ensures ∙ ap (λ (cs : Columns). written (level_file a.k cs.levels) a.bytes.now) c.list.view_is)
