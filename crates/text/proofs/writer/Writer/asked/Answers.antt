-- `asked` meets its contract: an order's lines, or the one line of a refusal. Assumes nothing.
use Rattle.text.proofs.Writing.{wrote_then}
use Rattle.text.proofs.writer.Writer.asked.Goals as goal

pub returns-in-Ok : goal.returns-in-Ok
returns-in-Ok c = rw c.in-Ok.is (wrote_then c.first_line.ensures.wrote c.share_lines.ensures)
