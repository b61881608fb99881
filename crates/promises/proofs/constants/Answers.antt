-- `constants` meets its contract: the nine numbers are the same. Assumes nothing.
use mathlib.Core.Path.{refl}
use Rattle.line.specs.Elements.{line_to}
use Rattle.triangle.specs.Elements.{triangle_to}
use Rattle.prism.specs.Elements.{prism_to}
use Rattle.promises.proofs.constants.Goals as goal

pub returns : goal.returns
unfolding line_to triangle_to prism_to
returns c = refl
