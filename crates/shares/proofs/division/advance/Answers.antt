-- `advance` meets its contract: the strides stay within the limit, then each turn adds one weight that keeps the sum within it. Assumes nothing.
use Rattle.shares.proofs.Turns.{reached_next}
use Rattle.shares.proofs.division.advance.Goals as goal

pub loop-count-preserved : goal.loop-count-preserved
loop-count-preserved c = reached_next c.loop-count.invariant c.loop-count-test.true c.if-limit-next.false
