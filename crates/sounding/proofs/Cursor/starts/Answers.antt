-- `starts` meets its contract: the shift is the power. Assumes nothing.
use mathlib.Core.Path.{ap}
use Prim.Native.Nat.{ℕ, ◌%◌}
use native.Mathlib.Omega.{arith}
use lib.Dec.{eqb}
use Rattle.format.proofs.Spots.{span_is}
use Rattle.sounding.proofs.Cursor.starts.Goals as goal

pub returns : goal.returns
returns c =
    let a = c.args in
    ap (λ (m : ℕ). eqb (a.self.cell % m) 0) (span_is 3 21 a.level (omega arith) c.requires)
