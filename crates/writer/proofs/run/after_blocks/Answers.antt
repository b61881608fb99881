-- `after_blocks` meets its contract: each turn takes a block more. Assumes nothing.
use Rattle.writer.proofs.Ending.{begins_more}
use Rattle.writer.proofs.run.after_blocks.Goals as goal

pub loop-block-preserved : goal.loop-block-preserved
loop-block-preserved c =
    let cut = c.in-Some.ensures.cases in
    rw cut.1 (begins_more c.args.level c.args.levels.now c.loop-block.rest.now c.loop-block.invariant 64 (rw cut.0 at (c.one_level.ensures c.if-not-one_level.false)))
