-- `Element::at` meets its contract: a level has so many elements. Assumes nothing.
use Rattle.std.proofs.Common.{◌≡◌, ℕ, ◌*◌, ◌%◌, ◌^◌, sym, ap, ◌∙◌, arith}
use Rattle.paper.specs.Outcome.{accepted}
use Rattle.tree.proofs.Call.{at_refused_5, at_accepted}
use Rattle.tree.proofs.Stated.{level_size}
use Rattle.tree.proofs.element.Element.at.Goals as goal

pub returns-then-BITS-level : goal.returns-then-BITS-level
returns-then-BITS-level g c =
    let m = g.met.Self.Element in
    let size : 1 * 2 ^ (c.BITS.result * c.args.level) % 2 ^ 64 ≡ g.Self.Element.shape.children ^ c.args.level =
    ap (λ (b : ℕ). 1 * 2 ^ (b * c.args.level) % 2 ^ 64) c.BITS.ensures ∙ level_size _ m.states c.args.level c.if-level-gt-HIGHEST.false in
    sym (at_refused_5 _ c.args.level c.args.position (omega (arith, m.states.highest)) (omega arith))

pub placed-requires : goal.placed-requires
placed-requires g c =
    let m = g.met.Self.Element in
    let size : 1 * 2 ^ (c.BITS.result * c.args.level) % 2 ^ 64 ≡ g.Self.Element.shape.children ^ c.args.level =
    ap (λ (b : ℕ). 1 * 2 ^ (b * c.args.level) % 2 ^ 64) c.BITS.ensures ∙ level_size _ m.states c.args.level c.if-level-gt-HIGHEST.false in
    (c.if-level-gt-HIGHEST.false, omega arith)

pub returns : goal.returns
returns g c =
    let m = g.met.Self.Element in
    let size : 1 * 2 ^ (c.BITS.result * c.args.level) % 2 ^ 64 ≡ g.Self.Element.shape.children ^ c.args.level =
    ap (λ (b : ℕ). 1 * 2 ^ (b * c.args.level) % 2 ^ 64) c.BITS.ensures ∙ level_size _ m.states c.args.level c.if-level-gt-HIGHEST.false in
    ap accepted c.placed.ensures
    ∙ sym (at_accepted _ c.args.level c.args.position (omega (arith, m.states.highest)) (omega arith))
