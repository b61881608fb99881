-- `count` meets its contract: the turns before leaf i have made so many leaves. Assumes nothing.
use Rattle.std.proofs.Common.{◌^◌, arith}
use lib.Pow.{pow_pos}
use Rattle.leaves.specs.Leaves.{leaves}
use Rattle.leaves.proofs.Columns.{leaves_length}
use Rattle.adaption.specs.Inner.{turn_of}
use Rattle.adaption.proofs.Passing.{along_size, along_next}
use Rattle.adaption.proofs.pass.count.Goals as goal

pub loop-i-preserved : goal.loop-i-preserved
loop-i-preserved c =
    let a = c.args in
    along_next (2 ^ a.bits) (pow_pos a.bits) (leaves a.list.now) a.marks.now c.loop-i.i c.loop-i.size c.loop-i.invariant (omega (arith, leaves_length a.list.now))
    (turn_of c.at-turn.result) c.taken-i.result c.made-size.result c.at-turn.ensures c.taken-i.ensures c.made-size.ensures

pub returns : goal.returns
returns c =
    let a = c.args in
    along_size (2 ^ a.bits) (pow_pos a.bits) (leaves a.list.now) a.marks.now c.loop-i.i c.loop-i.size c.loop-i.invariant (omega (arith, leaves_length a.list.now))
