-- `divide` meets its contract: each turn writes the boundary of one share more. Assumes nothing.
use Rattle.shares.proofs.Dividing.{Divided}
use Rattle.shares.proofs.division.divide.Given as goal

abbrev pub invariant-loop-s : goal.invariant-loop-s
invariant-loop-s l = Divided l.p l.whole l.weights l.initial.boundaries l.s l.boundaries l.at.count l.at.sum
