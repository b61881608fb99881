-- `number` meets its contract: the digits, and then the byte after them. Assumes nothing.
use Rattle.std.proofs.Common.{arith}
use Rattle.text.proofs.Writing.{wrote_then}
use Rattle.text.proofs.Decimals.{decimal_20, counted_few}
use Rattle.text.proofs.writer.Writer.number.Goals as goal

pub byte-requires : goal.byte-requires
byte-requires c = omega (arith, c.digits.ensures.put.end, decimal_20 c.args.n)

pub returns : goal.returns
returns c =
    let wrote = wrote_then c.digits.ensures c.byte.ensures in
    record { wrote = wrote; upper_bound = omega (arith, wrote.put.end, counted_few c.args.n c.args.after) }
