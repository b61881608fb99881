-- `placed` meets its contract: one coordinate after the other, each by its axis. Assumes nothing.
use Rattle.std.proofs.Common.{rules}
use Rattle.corners.proofs.Roots.{near_found, in_x, in_y, in_z}
use Rattle.corners.proofs.work.placed.Goals as goal

pub measured-requires : goal.measured-requires
measured-requires c = near_found in_x c.requires c.axis.ensures (λ v n given. search rules)

pub measured-requires-2 : goal.measured-requires-2
measured-requires-2 c = near_found in_y c.requires c.axis-2.ensures (λ v n given. search rules)

pub measured-requires-3 : goal.measured-requires-3
measured-requires-3 c = near_found in_z c.requires c.axis-3.ensures (λ v n given. search rules)
