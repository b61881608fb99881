-- `divide` meets its contract: each turn writes the boundary of one share more. Assumes nothing.
use Rattle.std.proofs.Common.{arith}
use Rattle.shares.proofs.Dividing.{divided_none, divided_all, divided_more}
use Rattle.shares.proofs.division.divide.Goals as goal

pub loop-s-init : goal.loop-s-init
loop-s-init c =
    let a = c.args in
    divided_none a.p c.whole_weight-whole.result a.weights.now a.boundaries.now

pub loop-s-preserved : goal.loop-s-preserved
loop-s-preserved c =
    divided_more c.loop-s.invariant c.requires.1.1.1 c.requires.0 c.whole_weight-whole.ensures.0 (omega arith) c.advance-at.result.count c.advance-at.result.sum c.advance-at.ensures

pub returns-2 : goal.returns-2
returns-2 c =
    divided_all (divided_more c.loop-s.invariant c.requires.1.1.1 c.requires.0 c.whole_weight-whole.ensures.0 (omega arith) c.advance-at.result.count c.advance-at.result.sum c.advance-at.ensures) c.requires.1.1.1 (omega arith)
