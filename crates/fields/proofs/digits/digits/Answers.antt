-- `digits` meets its contract: a digit more, and the number is ten times as large with it. Assumes nothing.
use Rattle.std.proofs.Common.{arith, sym, ◌∙◌}
use Rattle.fields.proofs.Numbers.{passing_more}
use Rattle.fields.proofs.digits.digits.Goals as goal

pub loop-k-preserved : goal.loop-k-preserved
loop-k-preserved c =
    passing_more c.loop-k.invariant _ c.loop-k-test.true (omega arith) _ c.from.ensures
    (sym c.is_ascii_digit.ensures.value ∙ c.if-not-is_ascii_digit.false)
