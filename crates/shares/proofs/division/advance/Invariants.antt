-- `advance` meets its contract: the strides stay within the limit, then each turn adds one weight that keeps the sum within the limit, and it stops where the next would not.
-- Assumes nothing.
use Rattle.shares.specs.Inner.{Within}
use Rattle.shares.proofs.division.advance.Given as goal

abbrev pub invariant-loop-count : goal.invariant-loop-count
invariant-loop-count l = Within l.weights l.limit l.count l.sum
