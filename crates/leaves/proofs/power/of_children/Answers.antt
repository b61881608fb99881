-- `of_children` meets its contract: a shifted 1 is a power of two. Assumes nothing.
use Rattle.std.proofs.Common.{arith}
use Rattle.tree.proofs.Digits.{shifted_power}
use Rattle.leaves.proofs.power.of_children.Goals as goal

pub returns-then-bits-ne3 : goal.returns-then-bits-ne3
returns-then-bits-ne3 c = shifted_power c.args.bits c.args.times (omega arith)
