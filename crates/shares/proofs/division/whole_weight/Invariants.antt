-- `whole_weight` meets its contract: the sum and the weight of the parts that are left are the whole. Assumes nothing.
use Rattle.std.proofs.Common.{◌≡◌, ◌+◌, ◌*◌, ◌≤◌, length}
use Rattle.shares.specs.Shares.{total}
use Rattle.shares.proofs.division.whole_weight.Given as goal

abbrev pub invariant-loop-part : goal.invariant-loop-part
invariant-loop-part l = record {
  next : (goal.iterator-loop-part).can_next l.part-iterator;
  finite : (goal.iterator-loop-part).is_finite l.part-iterator;
  size : l.part-iterator.size ≡ 65536;
  left : l.sum + total l.part-iterator.rest.now ≡ total l.weights;
  few : l.sum + 65535 * length l.part-iterator.rest.now ≤ 65535 * length l.weights;
}
