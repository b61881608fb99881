-- `line::placed` meets its contract: a line's position is its anchor in units of the side. Assumes nothing.
use mathlib.Core.Path.{refl, ◌∙◌, sym}
use Prim.Native.Nat.{◌*◌, ◌^◌, ◌≤◌, ◌<◌}
use native.Mathlib.Omega.{arith}
use native.Mathlib.Nat.{mod-eq_of_lt, mul-le-mul_right}
use Rattle.tree.specs.Anchors.{side}
use Rattle.tree.proofs.Anchor.{side_edge}
use Rattle.line.specs.Elements.{line_to}
use Rattle.line.specs.Lawful.{line_path}
use Rattle.line.proofs.Closed.{at_closed}
use Rattle.line.proofs.LineElement.placed.Goals as goal

pub returns : goal.returns
unfolding line_to
returns c =
    let l = c.args.level in
    let p = c.args.position in
    let inside : p * side 21 l ≤ 2 ^ l * side 21 l = mul-le-mul_right (side 21 l) (omega arith) in
    let fits : p * side 21 l < 4294967296 = omega (arith, side_edge 21 l c.requires.0) in
    line_path _ _ (mod-eq_of_lt fits) refl ∙ sym (at_closed 21 l p c.requires.0 c.requires.1)
