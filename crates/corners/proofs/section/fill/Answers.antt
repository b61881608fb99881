-- `fill` meets its contract: the points before i are written, and the parent of the last is kept. Assumes nothing.
use mathlib.Core.Path.{◌≡◌, ap, ap₂, ◌∙◌, subst⁻¹}
use Prim.Native.Nat.{ℕ, ◌/◌, ◌^◌, ◌<◌}
use native.Mathlib.Omega.{arith}
use lib.Dec.{lit<}
use lib.ListN.{get_or}
use Rattle.tree.specs.Words.{element_at}
use Rattle.tree.proofs.Digits.{power_pos}
use Rattle.prism.specs.Elements.{prism}
use Rattle.prism.specs.Points as prisms
use Rattle.positions.proofs.Checking.{each_inside}
use Rattle.corners.specs.declared.section.Kept.{Kept}
use Rattle.corners.specs.CornerPoints.{point_at}
use Rattle.corners.specs.Inner.{kept_at}
use Rattle.corners.proofs.Parents.{parent_inside, at_position}
use Rattle.corners.proofs.Filling.{underway_next, underway_all}
use Rattle.corners.proofs.section.fill.Goals as goal

pub at-kept-requires : goal.at-kept-requires
at-kept-requires c =
    (omega (arith, c.saturating_sub-upper.ensures, c.requires.shallow), power_pos 8 c.saturating_sub-upper.result (lit< tt))

pub next-kept-requires : goal.next-kept-requires
next-kept-requires c =
    let a = c.args in
    let is = c.saturating_sub-upper.ensures in
    let p = get_or a.positions.now c.loop-i.i 0 in
    let inside = each_inside a.level a.positions.now c.requires.inside c.loop-i.i c.loop-i-test.true in (
      omega (arith, is, c.requires.shallow),
      (
        subst⁻¹ (λ (u : ℕ). p / 8 < 8 ^ u) is (parent_inside a.level p inside),
        subst⁻¹ (λ (u : ℕ). c.loop-i.kept ≡ kept_at u c.loop-i.kept.position) is c.loop-i.invariant.held,
      ),
    )

pub local_at-requires : goal.local_at-requires
local_at-requires c =
    let a = c.args in
    let i = c.loop-i.i in
    let q = get_or a.positions.now i 0 / 8 in
    at_position c.new-section.result c.new-section.ensures.level
    (each_inside a.level a.positions.now c.requires.inside i c.loop-i-test.true)
    (ap (λ (k : Kept). k.parent) c.next-kept.ensures ∙ ap (λ (u : ℕ). element_at prism u q) c.saturating_sub-upper.ensures)

pub loop-i-preserved : goal.loop-i-preserved
loop-i-preserved c =
    let p = get_or c.args.positions.now c.loop-i.i 0 in
    underway_next c.loop-i.invariant c.requires.equal c.loop-i-test.true
    c.next-kept.result (p / 8) c.placed-p.result
    (c.next-kept.ensures ∙ ap (λ (u : ℕ). kept_at u (p / 8)) c.saturating_sub-upper.ensures)
    (c.placed-p.ensures
    ∙ ap (point_at c.args.root)
    (c.local_at.ensures
    ∙ ap₂ (λ (l i : ℕ). prisms.corner 21 (element_at prism l p) i) c.new-section.ensures.level c.new-section.ensures.corner))

pub returns : goal.returns
returns c = underway_all c.loop-i.invariant c.loop-i-test.false
