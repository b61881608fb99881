-- `Triangle::top` meets its contract: the first descendant keeps the anchor and the type. Assumes nothing.
use Rattle.std.proofs.Common.{sym}
use Rattle.triangle.specs.Elements.{triangle_to}
use Rattle.triangle.specs.Lawful.{known}
use Rattle.triangle.proofs.Units.{first_closed}
use Rattle.triangle.proofs.TriangleElement.top.Goals as goal

pub returns : goal.returns
unfolding triangle_to
returns c = let a = c.args in sym (first_closed 21 a.self a.level (known 21 a.self c.requires.0).typed c.requires.1.0)
