-- `Kept::at` meets its contract: the level has the position. Assumes nothing.
use Rattle.prism.specs.Elements.{prism_to}
use Rattle.corners.proofs.section.Kept.at.Goals as goal

pub placed-requires : goal.placed-requires
unfolding prism_to
placed-requires c = c.requires
