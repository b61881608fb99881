-- `fill_root` meets its contract: the leaves before i are sound, so the check is that of the leaves from i on. Assumes nothing.
use Rattle.std.proofs.Common.{◌≡◌, ◌^◌}
use Rattle.leaves.specs.Leaves.{spot_at}
use Rattle.leaves.specs.Inner.{rest_of}
use Rattle.leaves.proofs.fill_root.Given as goal

abbrev pub invariant-loop-i : goal.invariant-loop-i
invariant-loop-i l =
    rest_of (2 ^ l.bits) l.highest l.k l.from (spot_at l.root 0) l.list ≡ rest_of (2 ^ l.bits) l.highest l.k l.i (spot_at l.root l.cell) l.list
