-- `blended` meets its contract: the three heights lie from -2^30 to 2^30, so no product or sum leaves a word. Assumes nothing.
use Prim.Native.Nat.{◌^◌}
use native.Mathlib.Omega.{arith}
use lib.Dec.{lit≤}
use Rattle.corners.proofs.MachineWords.{part, both, whole}
use Rattle.corners.proofs.work.blended.Goals as goal

pub overflow_mul-result-2 : goal.overflow_mul-result-2
overflow_mul-result-2 c = rw c.from.ensures (part (2 ^ 30) c.args.t0 c.args.t1 (lit≤ tt) c.requires.0.tall0 c.requires.0.tall1 c.args.x c.requires.1.1).asks

pub overflow_add-result : goal.overflow_add-result
overflow_add-result c = rw c.from.ensures (both (2 ^ 30) c.args.t0 c.args.t1 (lit≤ tt) c.requires.0.tall0 c.requires.0.tall1 c.args.x c.requires.1.1).asks

pub overflow_mul-result-3 : goal.overflow_mul-result-3
overflow_mul-result-3 c = rw c.from-2.ensures (part (2 ^ 30) c.args.t1 c.args.t2 (lit≤ tt) c.requires.0.tall1 c.requires.0.tall2 c.args.y (omega arith)).asks

pub overflow_add-result-2 : goal.overflow_add-result-2
overflow_add-result-2 c = rw (c.from.ensures, c.from-2.ensures) (whole c.args.t0 c.args.t1 c.args.t2 c.args.x c.args.y c.requires.0 c.requires.1.0 c.requires.1.1).asks

pub returns : goal.returns
returns c = rw (c.from.ensures, c.from-2.ensures) (whole c.args.t0 c.args.t1 c.args.t2 c.args.x c.args.y c.requires.0 c.requires.1.0 c.requires.1.1).gives.reads
