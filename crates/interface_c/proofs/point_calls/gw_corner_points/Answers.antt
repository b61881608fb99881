-- `gw_corner_points` meets its contract: it is that of the call. The check finds this by itself; said here, the edit that exchanges two columns is refused
-- at the columns. Assumes nothing.
use Rattle.interface_c.proofs.point_calls.gw_corner_points.Goals as goal

pub returns : goal.returns
returns c = c.gw_corner_points.ensures
