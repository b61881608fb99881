-- `measured` meets its contract: Q lies from -2^51 to 2^51. Assumes nothing.
use mathlib.Core.Path.{subst⁻¹}
use Prim.Native.Nat.{◌^◌, ◌≤◌}
use lib.Dec.{lit≤}
use lib.IntN.{ℤ, nat_abs}
use Rattle.corners.specs.Inner.{corner_of}
use Rattle.corners.proofs.Offsets.{axis_bound, in_root}
use Rattle.corners.proofs.MachineWords.{kept}
use Rattle.corners.proofs.work.Axis.measured.Goals as goal

pub shrunk-requires : goal.shrunk-requires
shrunk-requires c =
    let small = axis_bound c.args.self (corner_of c.args.p) c.requires (in_root c.args.p) in
    subst⁻¹ (λ (z : ℤ). nat_abs z ≤ 2 ^ 51) (kept (2 ^ 51) c.scaled.ensures small (lit≤ tt)) small
