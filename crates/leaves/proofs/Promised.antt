-- A list is valid for one number of roots, and a uniform list is valid. Assumes nothing.
use Prim.Native.Nat.{ℕ, ◌<◌}
use Rattle.leaves.specs.Leaves.{spot_at}
use Rattle.leaves.specs.Laws.{Promised}
use Rattle.leaves.proofs.Entries.{one_ending}
use Rattle.leaves.proofs.UniformValid.{uniform_valid, uniform_length}

pub promised : (n L : ℕ) → 0 < n → Promised n L
promised n L positive =
    record {
      one_K = λ K K'. one_ending n L K K' (spot_at 0 0);
      of_uniform = λ K l shallow. uniform_valid n L l positive shallow K;
      uniform_long = uniform_length n L;
    }
