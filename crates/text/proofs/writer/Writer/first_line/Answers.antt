-- `first_line` meets its contract: seven words, each with its number, one after another. Assumes nothing.
use Rattle.text.proofs.Writing.{wrote_then}
use Rattle.text.proofs.writer.Writer.first_line.Goals as goal

pub returns-clause-wrote : goal.returns-clause-wrote
returns-clause-wrote c =
    let six = rw c.from.ensures at c.entry-6.ensures.wrote in
    let seven = rw c.from-2.ensures at c.entry-7.ensures.wrote in
    wrote_then c.entry.ensures.wrote (wrote_then c.entry-2.ensures.wrote (wrote_then c.entry-3.ensures.wrote (wrote_then c.entry-4.ensures.wrote
    (wrote_then c.entry-5.ensures.wrote (wrote_then six seven)))))
