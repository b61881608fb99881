-- `Line::bottom` meets its contract: each way out is one case of the call. Assumes nothing.
use mathlib.Core.Path.{refl, ap₂, ◌∙◌, sym}
use Prim.Native.Nat.{◌-◌, ℕ, ◌+◌}
use native.Mathlib.Omega.{arith}
use Rattle.tree.proofs.Anchor.{side_le}
use Rattle.line.specs.Elements.{line_to}
use Rattle.line.specs.Lawful.{line_path}
use Rattle.line.proofs.Closed.{last_closed}
use Rattle.line.proofs.LineElement.bottom.Goals as goal

pub overflow_sub-result : goal.overflow_sub-result
unfolding line_to
overflow_sub-result c = omega (arith, side_le 21 c.args.self.level c.args.level c.requires.1.0)

pub returns : goal.returns
unfolding line_to
returns c =
    let a = c.args in
    line_path _ _ (ap₂ (λ (h k : ℕ). a.self.x + (h - k)) c.side.ensures c.side-2.ensures) refl
    ∙ sym (last_closed 21 a.self a.level c.requires.1.0 c.requires.1.1)
