-- `whole_weight` meets its contract: the sum and the weight of the parts that are left are the whole. Assumes nothing.
use Rattle.std.proofs.Common.{length, length-append, ap, arith}
use Rattle.shares.specs.Shares.{total}
use Rattle.shares.proofs.Sums.{total_append, total_none}
use Rattle.shares.proofs.division.whole_weight.Goals as goal

pub loop-part-preserved : goal.loop-part-preserved
loop-part-preserved c =
    let at = c.loop-part.invariant in
    let step = c.in-Some.ensures.steps in
    let part = c.in-Some.part.now in
    let rest = c.next.new.self.rest.now in
    record {
      next = omega (arith, at.next, step.0);
      finite = tt;
      size = omega (arith, at.size, step.0);
      left = omega (arith, at.left, ap total step.1.0, total_append part rest, c.part_weight.ensures.0);
      few = omega (arith, at.few, ap length step.1.0, length-append part rest, c.part_weight.ensures.1);
    }

pub returns : goal.returns
returns c =
    let at = c.loop-part.invariant in
    let none = c.in-None.ensures.steps.1.0 in
    (omega (arith, at.left, total_none c.loop-part.part-iterator.rest.now none), omega (arith, at.few))
