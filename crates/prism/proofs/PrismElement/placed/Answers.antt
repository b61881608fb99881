-- `placed` of a prism meets its contract: the loop goes down by one digit a turn. Assumes nothing.
use Rattle.prism.proofs.Loops.{start, again, end}
use Rattle.prism.proofs.PrismElement.placed.Goals as goal

pub loop-left-init : goal.loop-left-init
loop-left-init c = start c.args.level c.args.position c.requires.0

pub loop-left-preserved : goal.loop-left-preserved
loop-left-preserved c =
    again c.args.level c.args.position c.requires.0 c.loop-left.left c.loop-left.x c.loop-left.y c.loop-left.z c.loop-left.kind c.loop-left.invariant c.loop-left-test.true c.child_row-s.result c.child_row-s.ensures

pub returns : goal.returns
returns c =
    end c.args.level c.args.position c.requires.0 c.loop-left.left c.loop-left.x c.loop-left.y c.loop-left.z c.loop-left.kind c.loop-left.invariant c.loop-left-test.false
