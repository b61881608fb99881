-- `fill_positions` meets its contract: each turn writes one entry more. Assumes nothing.
use Rattle.std.proofs.Common.{ℕ, ◌%◌, ◌^◌, ap, arith}
use Rattle.columns.proofs.Filling.{each_is, entry_more, entry_last}
use Rattle.columns.proofs.start.fill_positions.Goals as goal

pub loop-leaf-preserved : goal.loop-leaf-preserved
loop-leaf-preserved c =
    let a = c.args in
    entry_more (λ i. i % 2 ^ a.bits) a.positions.now c.loop-leaf.positions c.loop-leaf.leaf c.loop-leaf.invariant _ (omega arith) (ap (λ (m : ℕ). c.loop-leaf.leaf % m) (each_is a.bits c.requires))

pub returns : goal.returns
returns c =
    let a = c.args in
    entry_last (λ i. i % 2 ^ a.bits) a.positions.now c.loop-leaf.positions c.loop-leaf.leaf c.loop-leaf.invariant (omega arith) (omega arith)
