-- `seventh` meets its contract: before each byte, so many semicolons are to come. Assumes nothing.
use Rattle.std.proofs.Common.{◌<◌}
use Rattle.converter.proofs.Seats.{Seat}
use Rattle.converter.proofs.fill.seventh.Given as goal

abbrev pub invariant-loop-i : goal.invariant-loop-i
invariant-loop-i l = (0 < l.left) × Seat l.input l.left l.i
