-- `say_size` is safe: the two tests are what the cast asks. Assumes nothing.
use Rattle.std.proofs.Common.{T, sym, subst}
use lib.Ieee.{of_bits, neg}
use Rattle.points.proofs.say_size.Goals as goal

pub truncating_f64_to_u64-n-requires-clause-lower_bound :
    goal.truncating_f64_to_u64-n-requires-clause-lower_bound
unfolding of_bits neg
truncating_f64_to_u64-n-requires-clause-lower_bound g c = subst T (sym c.if-eighths.true) tt

pub truncating_f64_to_u64-n-requires-clause-upper_bound :
    goal.truncating_f64_to_u64-n-requires-clause-upper_bound
unfolding of_bits neg
truncating_f64_to_u64-n-requires-clause-upper_bound g c = subst T (sym c.if-eighths-2.true) tt
