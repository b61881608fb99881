-- `sound` meets its contract: each turn reads one run more. Assumes nothing.
use Prim.Native.Nat.{◌-◌}
use lib.Pow.{pow_pos}
use Rattle.sounding.specs.Inner.{walk_of}
use Rattle.sounding.proofs.Counting.{Going}
use Rattle.sounding.proofs.sound.Given as goal

abbrev pub invariant-loop-kept : goal.invariant-loop-kept
invariant-loop-kept l =
    Going 8 21 l.head.roots (pow_pos 3) l.bytes l.head.runs l.head.at (l.head.runs - l.kept) (walk_of l.kept l.walk)
