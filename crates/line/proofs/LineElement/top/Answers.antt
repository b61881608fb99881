-- `Line::top` meets its contract: the first descendant keeps the anchor. Assumes nothing.
use Rattle.std.proofs.Common.{sym}
use Rattle.line.specs.Elements.{line_to}
use Rattle.line.proofs.Closed.{first_closed}
use Rattle.line.proofs.LineElement.top.Goals as goal

pub returns : goal.returns
unfolding line_to
returns c = sym (first_closed 21 c.args.self c.args.level c.requires.1.0)
