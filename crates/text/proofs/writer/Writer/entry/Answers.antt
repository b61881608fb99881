-- `entry` meets its contract: the word, and then its number. Assumes nothing.
use Rattle.text.proofs.Writing.{wrote_then}
use Rattle.text.proofs.writer.Writer.entry.Goals as goal

pub returns-clause-wrote : goal.returns-clause-wrote
returns-clause-wrote c = wrote_then c.word.ensures c.number.ensures.wrote
