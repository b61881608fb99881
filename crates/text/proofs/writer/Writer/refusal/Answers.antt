-- `refusal` meets its contract: two words, each with its number. Assumes nothing.
use Rattle.text.proofs.Writing.{wrote_then}
use Rattle.text.proofs.writer.Writer.refusal.Goals as goal

pub returns : goal.returns
returns c = rw c.from.ensures at (wrote_then c.entry.ensures.wrote c.entry-2.ensures.wrote)
