-- `Element::compare` meets its contract. Assumes nothing.
use Rattle.std.proofs.Common.{◌≡◌, ℕ, sym, ap, subst, ◌∙◌}
use Rattle.paper.specs.Outcome.{accepted, same}
use Rattle.paper.proofs.Scan.{faultless}
use Rattle.paper.specs.Refusals.{order_of}
use Rattle.tree.specs.Words.{position, first, order, compared}
use Rattle.tree.proofs.Call.{order_accepted}
use Rattle.tree.proofs.element.Element.compare.Goals as goal

pub returns : goal.returns
unfolding order
returns g c =
    let m = g.met.Self.Element in
    let S = g.Self.Element.shape in
    let e = c.args.self in
    let f = c.args.other in
    let found : order_of c.order.result ≡ compared (position S (first S e 21)) (position S (first S f 21)) (compared (S.level e) (S.level f) same) =
    rw (c.start.ensures, c.start-2.ensures, c.level.ensures, c.level-2.ensures) at c.order.ensures in
    let there = subst (λ (h : ℕ). order_of c.order.result ≡ compared (position S (first S e h)) (position S (first S f h)) (compared (S.level e) (S.level f) same))
    (sym m.states.highest) found in
    ap accepted there ∙ sym (order_accepted S e f (faultless _ 0 c.in_ok-check.ensures) (faultless _ 1 c.in_ok-check-2.ensures))
