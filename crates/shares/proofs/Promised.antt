-- All that is promised of shares: the boundaries are fair, with equal weights they are the thesis's formula 27, and `heaviest` is the heaviest.
-- Assumes nothing.
use Prim.Native.Nat.{◌+◌}
use Rattle.paper.proofs.Scan.{rows_length}
use Rattle.shares.specs.Shares.{boundary}
use Rattle.shares.specs.Laws.{Promised}
use Rattle.shares.proofs.Sums.{heaviest_is}
use Rattle.shares.proofs.Boundaries.{fair}
use Rattle.shares.proofs.EqualWeights.{boundary_equal}

pub promised : Promised
promised =
    record {
      fair = fair;
      equal = boundary_equal;
      many = λ P ws. rows_length (boundary P ws) 0 (P + 1);
      heaviest_is = heaviest_is;
    }
