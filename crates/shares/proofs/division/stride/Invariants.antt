-- `stride` meets its contract: each turn adds the weight of 16 leaves that keeps the sum within the limit. Assumes nothing.
use Rattle.std.proofs.Common.{◌≡◌, drop}
use Rattle.shares.specs.Inner.{Within}
use Rattle.shares.proofs.division.stride.Given as goal

abbrev pub invariant-loop-part : goal.invariant-loop-part
invariant-loop-part l = record {
  next : (goal.iterator-loop-part).can_next l.part-iterator;
  finite : (goal.iterator-loop-part).is_finite l.part-iterator;
  size : l.part-iterator.size ≡ 16;
  left : l.part-iterator.rest.now ≡ drop l.at.count l.weights;
  within : Within l.weights l.limit l.at.count l.at.sum;
}
