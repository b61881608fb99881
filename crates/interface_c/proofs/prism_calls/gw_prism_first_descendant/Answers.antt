-- `gw_prism_first_descendant` meets its contract: it is that of the call. The check finds this by itself; said here, the edit that asks at another level is
-- refused at the level. Assumes nothing.
use Rattle.interface_c.proofs.prism_calls.gw_prism_first_descendant.Goals as goal

pub returns : goal.returns
returns c = c.gw_prism_first_descendant.ensures
