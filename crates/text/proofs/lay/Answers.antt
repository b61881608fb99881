-- `lay` meets its contract: after i bytes, the first i are put; those that do not fit change nothing. Assumes nothing.
use Rattle.std.proofs.Common.{refl, arith}
use Rattle.text.proofs.Writing.{byte_more, bytes_done, bytes_out}
use Rattle.text.proofs.lay.Goals as goal

pub returns-then-out-at : goal.returns-then-out-at
returns-then-out-at c = bytes_out c.args.text.now c.args.out.now c.args.at c.if-out-at.true

pub loop-i-init : goal.loop-i-init
loop-i-init c = refl

pub loop-i-preserved : goal.loop-i-preserved
loop-i-preserved c =
    let a = c.args in
    let l = c.loop-i in
    byte_more a.out.now a.text.now a.at l.out _ l.i (omega (arith, c.fitting-n.ensures)) l.invariant refl

pub returns : goal.returns
returns c =
    let a = c.args in
    bytes_done a.out.now a.text.now a.at c.loop-i.out c.loop-i.i (omega (arith, c.fitting-n.ensures)) c.loop-i.invariant
