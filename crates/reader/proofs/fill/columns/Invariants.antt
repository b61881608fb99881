-- `columns` meets its contract: each turn stores the leaves of one run more. Assumes nothing.
use Prim.Native.Nat.{◌-◌}
use lib.Pow.{pow_pos}
use Rattle.columns.specs.Lent.{held, SameLoans}
use Rattle.format.specs.Reading.{sound}
use Rattle.sounding.specs.Answers.{front_of, spot_of}
use Rattle.reader.proofs.Underway.{Underway}
use Rattle.reader.proofs.fill.columns.Given as goal

abbrev pub invariant-loop-run : goal.invariant-loop-run
invariant-loop-run l = record {
  loans : SameLoans l.initial.lent l.lent;
  underway :
      Underway 8 21 l.fn.head.roots (pow_pos 3) l.bytes (sound 8 21 l.bytes (front_of l.fn.head)).leaves (held l.initial.lent) (l.fn.head.runs - l._run) l.at
      (spot_of l.come) l.size (held l.lent);
}
