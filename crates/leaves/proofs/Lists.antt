-- A list whose columns were tested is even. Assumes nothing.
use Rattle.std.proofs.Common.{◌≡◌, length, true, eqb}
use mathlib.Core.Bool.{and-eq-true_iff}
use borrow.Author.Tests.{eqb-true}
use Rattle.leaves.specs.Leaves.{Columns, equal_columns}
use Rattle.leaves.specs.Lists.{Even}

pub even_of : (cs : Columns) → equal_columns cs ≡ true → Even cs
even_of cs test =
    let equal = (and-eq-true_iff (eqb (length cs.roots) (length cs.levels)) (eqb (length cs.roots) (length cs.positions))).0 test in
    record {
      levels_long = eqb-true (length cs.roots) (length cs.levels) equal.0;
      positions_long = eqb-true (length cs.roots) (length cs.positions) equal.1;
    }
