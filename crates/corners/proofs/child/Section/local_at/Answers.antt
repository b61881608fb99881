-- `local_at` meets its contract: the root is its own element, and any other is a child of the parent. Assumes nothing.
use Rattle.std.proofs.Common.{◌≡◌, ◌+◌, ◌%◌, ap, ◌∙◌, sym, arith}
use mathlib.Core.Path.{subst⁻¹}
use native.Mathlib.Nat.{mod-lt}
use lib.Dec.{lit<}
use Rattle.tree.specs.Laws.{Sound}
use Rattle.prism.specs.declared.Prism.{Prism}
use Rattle.prism.specs.Elements.{prism}
use Rattle.prism.specs.Points as prisms
use Rattle.corners.proofs.Parents.{child_of, parent_sound, one_above}
use Rattle.corners.proofs.child.Section.local_at.Goals as goal

pub local_of-requires : goal.local_of-requires
local_of-requires c =
    let a = c.args in
    let pre = c.requires in
    (subst⁻¹ (Sound prism) pre.parent (parent_sound a.self.level a.position a.self.shallow pre.inside), a.self.numbered)

pub local_below-requires : goal.local_below-requires
local_below-requires c =
    let a = c.args in
    let pre = c.requires in
    let level : a.self.level ≡ a.parent.level + 1 =
    subst⁻¹ (λ (e : Prism). a.self.level ≡ e.level + 1) pre.parent (one_above a.self.level a.position c.if-self-eq0.false) in
    record {
      below = level;
      above = omega (arith, level, a.self.shallow);
      sound = subst⁻¹ (Sound prism) pre.parent (parent_sound a.self.level a.position a.self.shallow pre.inside);
      child = mod-lt a.position (lit< tt);
    }

pub returns : goal.returns
returns c =
    let a = c.args in
    c.local_below.ensures
    ∙ ap (λ (e : Prism). prisms.corner 21 (prism.child e (a.position % 8)) a.self.corner) c.requires.parent
    ∙ ap (λ (e : Prism). prisms.corner 21 e a.self.corner) (sym (child_of a.self.level a.position c.if-self-eq0.false))
