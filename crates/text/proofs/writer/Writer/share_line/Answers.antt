-- `share_line` meets its contract: three numbers, one after another. Assumes nothing.
use Rattle.text.proofs.Writing.{wrote_then}
use Rattle.text.proofs.writer.Writer.share_line.Goals as goal

pub returns-clause-wrote : goal.returns-clause-wrote
returns-clause-wrote c = wrote_then c.number.ensures.wrote (wrote_then c.number-2.ensures.wrote c.number-3.ensures.wrote)
