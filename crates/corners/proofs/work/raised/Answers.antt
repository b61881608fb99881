-- `raised` meets its contract: both ends lie from -512 to 512, so no product or sum leaves a word. Assumes nothing.
use lib.Dec.{lit≤}
use Rattle.corners.proofs.MachineWords.{part, both}
use Rattle.corners.proofs.work.raised.Goals as goal

pub overflow_mul-result-2 : goal.overflow_mul-result-2
overflow_mul-result-2 c = rw c.from.ensures (part 512 c.args.low c.args.high (lit≤ tt) c.requires.0 c.requires.1.0 c.args.z c.requires.1.1).asks

pub overflow_add-result : goal.overflow_add-result
overflow_add-result c = rw c.from.ensures (both 512 c.args.low c.args.high (lit≤ tt) c.requires.0 c.requires.1.0 c.args.z c.requires.1.1).asks

pub returns : goal.returns
returns c = rw c.from.ensures (both 512 c.args.low c.args.high (lit≤ tt) c.requires.0 c.requires.1.0 c.args.z c.requires.1.1).gives.reads
