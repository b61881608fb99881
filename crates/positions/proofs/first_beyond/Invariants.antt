-- `first_beyond` meets its contract: the positions before i are no fault, so the checks are those of the positions from i on. Assumes nothing.
use Rattle.std.proofs.Common.{◌≡◌, drop}
use Rattle.paper.specs.Outcome.{passed, checks, scan}
use Rattle.positions.specs.Positions.{position_fault}
use Rattle.positions.proofs.first_beyond.Given as goal

abbrev pub invariant-loop-i : goal.invariant-loop-i
invariant-loop-i l = checks (position_fault l.level) l.positions ≡ scan (position_fault l.level) l.i (drop l.i l.positions) passed
