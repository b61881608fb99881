-- `fill_root` meets its contract: the leaves before i are sound, so the check is that of the leaves from i on. Assumes nothing.
use Rattle.std.proofs.Common.{◌≡◌, ◌≤◌, ◌^◌, sym, ◌∙◌, arith}
use Rattle.std.proofs.lemmas.Result.{err_from_is_err_and}
use Rattle.paper.specs.Outcome.{passed}
use Rattle.leaves.specs.Leaves.{leaf_at, room, spot_at}
use Rattle.leaves.specs.Lists.{leaf_of}
use Rattle.leaves.proofs.Shift.{whole_root, root_cells}
use Rattle.leaves.proofs.Steps.{walk_out, ends_le, walk_last, walk_within}
use Rattle.leaves.proofs.Turns.{walk_short_root}
use Rattle.leaves.proofs.fill_root.Goals as goal

pub returns-in_err-cell : goal.returns-in_err-cell
returns-in_err-cell c =
    let a = c.args in
    let p = err_from_is_err_and c.from_residual.result c.from_residual.ensures.1 in
    rw (p.1, p.2) (c.loop-i.invariant ∙ walk_out (2 ^ a.bits) a.highest a.k passed (leaf_at a.list.now) (room a.list.now) c.loop-i.i (spot_at a.root c.loop-i.cell) (leaf_of c.leaf.result) c.leaf.ensures (omega arith) _ _ c.in_err-cell.ensures)

pub overflow_add-cell : goal.overflow_add-cell
overflow_add-cell c =
    let a = c.args in
    omega (arith, ends_le (2 ^ a.bits) a.highest a.k passed (leaf_at a.list.now) (room a.list.now) c.loop-i.i (spot_at a.root c.loop-i.cell) (leaf_of c.leaf.result) c.leaf.ensures (omega arith) c.in_ok-cell.field-0 c.in_ok-cell.ensures, root_cells a.bits a.highest c.requires.walks.narrow)

pub returns-then-cell-bits : goal.returns-then-cell-bits
returns-then-cell-bits c =
    let a = c.args in
    record {
      inside = omega arith;
      goes_on = c.loop-i.invariant ∙ walk_last (2 ^ a.bits) a.highest a.k passed (leaf_at a.list.now) (room a.list.now) c.loop-i.i (spot_at a.root c.loop-i.cell) (leaf_of c.leaf.result) c.leaf.ensures (omega arith) c.in_ok-cell.field-0 c.in_ok-cell.ensures (c.if-cell-bits.true ∙ whole_root a.bits a.highest c.requires.walks.narrow);
    }

pub loop-i-preserved : goal.loop-i-preserved
loop-i-preserved c =
    let a = c.args in
    c.loop-i.invariant
    ∙ walk_within (2 ^ a.bits) a.highest a.k passed (leaf_at a.list.now) (room a.list.now) c.loop-i.i (spot_at a.root c.loop-i.cell) (leaf_of c.leaf.result) c.leaf.ensures (omega arith) c.in_ok-cell.field-0 c.in_ok-cell.ensures (λ e. c.if-cell-bits.false (e ∙ sym (whole_root a.bits a.highest c.requires.walks.narrow)))

pub returns : goal.returns
returns c =
    let a = c.args in
    let end : room a.list.now ≤ c.loop-i.i = omega arith in
    let place : c.loop-i.i ≡ c.len.result = omega arith in
    rw (← place) (c.loop-i.invariant ∙ walk_short_root (2 ^ a.bits) a.highest a.k passed (leaf_at a.list.now) (room a.list.now) c.loop-i.i (spot_at a.root c.loop-i.cell) end (λ e. omega (arith, c.requires.root_bound)))
