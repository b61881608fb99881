-- `Line::rank` meets its contract: each way out is one case of the call. Assumes nothing.
use mathlib.Core.Path.{sym}
use Rattle.line.specs.Elements.{line_to}
use Rattle.line.proofs.Closed.{position_closed}
use Rattle.line.proofs.LineElement.rank.Goals as goal

pub returns : goal.returns
unfolding line_to
returns c = sym (position_closed 21 c.args.self c.requires)
