-- `shrunk` meets its contract: up to 2^51 the number is an f64 without loss, and the literal is 2^-42. Assumes nothing.
use mathlib.Core.Path.{ap, ◌∙◌}
use mathlib.Core.Bool.{false}
use lib.IntN.{ℤ, negsuc}
use lib.Ieee.{fin, binary64, of_int, of_bits, mul}
use mir.Syntax.{w64}
use mir.ValLaws.{to_z-of_z}
use Rattle.corners.proofs.Exact.{product}
use Rattle.corners.proofs.work.shrunk.Goals as goal

pub returns : goal.returns
unfolding of_bits
returns c =
    ap (λ (z : ℤ). mul binary64 (of_int binary64 z) (fin false 1 (negsuc 41))) (to_z-of_z w64 c.args.q c.ranges.q) ∙ product c.args.q c.requires
