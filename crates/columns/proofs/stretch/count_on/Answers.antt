-- `count_on` meets its contract: each turn writes one entry more. Assumes nothing.
use Rattle.std.proofs.Common.{◌+◌, refl, arith}
use Rattle.columns.proofs.Filling.{entry_more, entry_last}
use Rattle.columns.proofs.stretch.count_on.Goals as goal

pub loop-t-preserved : goal.loop-t-preserved
loop-t-preserved c =
    let a = c.args in
    entry_more (λ t. a.first + t) a.positions.now c.loop-t.positions c.loop-t.t c.loop-t.invariant _ (omega arith) refl

pub returns : goal.returns
returns c =
    let a = c.args in
    entry_last (λ t. a.first + t) a.positions.now c.loop-t.positions c.loop-t.t c.loop-t.invariant (omega arith) (omega arith)
