-- `digits` meets its contract: after k digits, the number so far and what is left of the field say what the field says. Assumes nothing.
use Rattle.fields.proofs.Numbers.{Passing}
use Rattle.fields.proofs.digits.digits.Given as goal

abbrev pub invariant-loop-k : goal.invariant-loop-k
invariant-loop-k l = Passing l.input l.at l.number l.k
