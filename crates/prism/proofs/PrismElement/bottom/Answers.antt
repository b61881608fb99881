-- `Prism::bottom` meets its contract: the last descendant ends where the element ends, in each coordinate. Assumes nothing.
use mathlib.Core.Path.{refl, ap, ap₂, ◌∙◌, sym}
use Prim.Native.Nat.{ℕ, ◌+◌, ◌-◌}
use native.Mathlib.Omega.{arith}
use Rattle.tree.proofs.Anchor.{side_le}
use Rattle.prism.specs.Elements.{prism_to}
use Rattle.prism.specs.Lawful.{prism_path, grids}
use Rattle.prism.proofs.Parts.{last_closed}
use Rattle.prism.proofs.PrismElement.bottom.Goals as goal

pub overflow_sub-d : goal.overflow_sub-d
unfolding prism_to
overflow_sub-d c = omega (arith, side_le 21 c.args.self.level c.args.level c.requires.1.0)

pub returns : goal.returns
unfolding prism_to
returns c =
    let a = c.args in
    let typed = (grids 21 a.self c.requires.0).0.typed in
    let gap = ap₂ (λ (m n : ℕ). m - n) c.side.ensures c.side-2.ensures in
    prism_path _ _ (ap (λ (m : ℕ). a.self.x + m) gap) (ap (λ (m : ℕ). a.self.y + m) gap) (ap (λ (m : ℕ). a.self.z + m) gap) refl refl
    ∙ sym (last_closed 21 a.self a.level typed c.requires.1.0 c.requires.1.1)
