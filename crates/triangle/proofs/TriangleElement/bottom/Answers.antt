-- `Triangle::bottom` meets its contract: each way out is one case of the call. Assumes nothing.
use mathlib.Core.Path.{refl, ap, ap₂, ◌∙◌, sym}
use Prim.Native.Nat.{◌-◌, ℕ, ◌+◌}
use native.Mathlib.Omega.{arith}
use Rattle.tree.proofs.Anchor.{side_le}
use Rattle.triangle.specs.Elements.{triangle_to}
use Rattle.triangle.specs.Lawful.{known, triangle_path}
use Rattle.triangle.proofs.Units.{last_closed}
use Rattle.triangle.proofs.TriangleElement.bottom.Goals as goal

pub overflow_sub-d : goal.overflow_sub-d
unfolding triangle_to
overflow_sub-d c = omega (arith, side_le 21 c.args.self.level c.args.level c.requires.1.0)

pub returns : goal.returns
unfolding triangle_to
returns c =
    let a = c.args in
    let k = known 21 a.self c.requires.0 in
    let gap = ap₂ (λ (m n : ℕ). m - n) c.side.ensures c.side-2.ensures in
    triangle_path _ _ (ap (λ (m : ℕ). a.self.x + m) gap) (ap (λ (m : ℕ). a.self.y + m) gap) refl refl
    ∙ sym (last_closed 21 a.self a.level k.typed c.requires.1.0 c.requires.1.1)
