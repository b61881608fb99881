-- `put` meets its contract: each turn writes one entry more. Assumes nothing.
use Rattle.std.proofs.Common.{refl, arith}
use Rattle.columns.proofs.Filling.{entry_more, entry_last}
use Rattle.columns.proofs.stretch.put.Goals as goal

pub loop-entry-preserved : goal.loop-entry-preserved
loop-entry-preserved g c =
    let a = c.args in
    entry_more (λ t. a.value) a.column.now c.loop-entry.column c.loop-entry.entry-index c.loop-entry.invariant a.value (omega arith) refl

pub returns : goal.returns
returns g c =
    let a = c.args in
    entry_last (λ t. a.value) a.column.now c.loop-entry.column c.loop-entry.entry-index c.loop-entry.invariant (omega arith) (omega arith)
