-- `walk` meets its contract: the roots before this one are filled, so the check is that of the leaves from entry `from` on. Assumes nothing.
use Rattle.std.proofs.Common.{◌≡◌, ◌≤◌, ◌^◌}
use Rattle.paper.specs.Outcome.{passed}
use Rattle.leaves.specs.Leaves.{leaves, room, spot_at}
use Rattle.leaves.specs.Calls.{walked}
use Rattle.leaves.specs.Inner.{rest_of}
use Rattle.leaves.proofs.walk.Given as goal

abbrev pub invariant-loop-root : goal.invariant-loop-root
invariant-loop-root l = record {
  inside : l.from ≤ room l.list;
  filled : walked (2 ^ l.bits) l.highest l.k 0 (spot_at 0 0) (leaves l.list) passed ≡ rest_of (2 ^ l.bits) l.highest l.k l.from (spot_at l.root 0) l.list;
}
