-- `part_weight` meets its contract: each turn adds one weight to the sum of the first. Assumes nothing.
use Rattle.std.proofs.Common.{arith}
use Rattle.shares.specs.Shares.{total}
use Rattle.shares.proofs.Sums.{total_next}
use Rattle.shares.proofs.division.part_weight.Goals as goal

pub loop-weight-init : goal.loop-weight-init
unfolding total
loop-weight-init c = (omega arith, omega arith)

pub loop-weight-preserved : goal.loop-weight-preserved
loop-weight-preserved c =
    let more = total_next c.args.weights.now c.loop-weight.weight-index c.loop-weight-test.true in
    (omega arith, omega (arith, c.type_inv.weights c.loop-weight.weight-index))
