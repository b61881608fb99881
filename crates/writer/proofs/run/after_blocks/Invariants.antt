-- `after_blocks` meets its contract: each turn takes a block more. Assumes nothing.
use Rattle.std.proofs.Common.{length}
use Rattle.writer.specs.Inner.{Begins}
use Rattle.writer.proofs.run.after_blocks.Given as goal

abbrev pub invariant-loop-block : goal.invariant-loop-block
invariant-loop-block l = Begins l.level l.levels l.rest

abbrev pub decreases-loop-block : goal.decreases-loop-block
decreases-loop-block l = length l.rest
