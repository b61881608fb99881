-- `digits` meets its contract: one digit, or those of `itoa`, which are the paper's. Assumes nothing.
use mathlib.Core.Path.{◌∙◌}
use Rattle.std.proofs.Common.{arith}
use Rattle.text.proofs.Decimals.{decimal_small, std_decimal}
use Rattle.text.proofs.writer.Writer.digits.Goals as goal

pub returns-then-n-lt10 : goal.returns-then-n-lt10
returns-then-n-lt10 c = rw (decimal_small c.args.n c.if-n-lt10.true) c.byte.ensures

pub returns : goal.returns
returns c =
    rw (c.as_bytes.ensures.value ∙ c.format.ensures.text ∙ std_decimal c.args.n (omega (arith, c.ranges.n))) at c.word.ensures
