-- `Prism::top` meets its contract: the first descendant keeps the anchor and the type. Assumes nothing.
use Rattle.std.proofs.Common.{sym}
use Rattle.prism.specs.Elements.{prism_to}
use Rattle.prism.specs.Lawful.{grids}
use Rattle.prism.proofs.Parts.{first_closed}
use Rattle.prism.proofs.PrismElement.top.Goals as goal

pub returns : goal.returns
unfolding prism_to
returns c = let a = c.args in sym (first_closed 21 a.self a.level (grids 21 a.self c.requires.0).0.typed c.requires.1.0)
