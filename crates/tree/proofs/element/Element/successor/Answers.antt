-- `Element::successor` meets its contract: the last element of a level is one short of their number. Assumes nothing.
use Rattle.std.proofs.Common.{ℕ, ◌+◌, sym, ap, ap₂, ◌∙◌, arith}
use Rattle.paper.specs.Outcome.{accepted}
use Rattle.paper.proofs.Scan.{faultless}
use Rattle.tree.specs.Words.{element_at}
use Rattle.tree.proofs.Call.{successor_refused_9, successor_accepted}
use Rattle.tree.proofs.RoundTrip.{position_lt}
use Rattle.tree.proofs.Stated.{level_size, shallow, next_fits}
use Rattle.tree.proofs.element.Element.successor.Goals as goal

pub overflow_add-next : goal.overflow_add-next
overflow_add-next g c =
    let m = g.met.Self.Element in
    omega (arith, c.rank-next.ensures, next_fits _ m.states m.lawful c.args.self (faultless _ 0 c.in_default.ensures))

pub returns-then-next-BITS : goal.returns-then-next-BITS
returns-then-next-BITS g c =
    let m = g.met.Self.Element in
    let S = g.Self.Element.shape in
    let e = c.args.self in
    let sound = faultless _ 0 c.in_default.ensures in
    let size = level_size S m.states (S.level e) (shallow S m.states m.lawful e sound) in
    sym (successor_refused_9 S e sound (rw (c.rank-next.ensures, c.BITS.ensures, c.level-level.ensures) at c.if-next-BITS.true ∙ size))

pub placed-requires : goal.placed-requires
placed-requires g c =
    let m = g.met.Self.Element in
    let S = g.Self.Element.shape in
    let e = c.args.self in
    let sound = faultless _ 0 c.in_default.ensures in
    let level = shallow S m.states m.lawful e sound in
    let size = level_size S m.states (S.level e) level in
    let below = position_lt S m.lawful e sound in
    let more = rw (c.rank-next.ensures, c.BITS.ensures, c.level-level.ensures) at c.if-next-BITS.false in
    (omega (arith, c.level-level.ensures), rw (c.level-level.ensures, c.rank-next.ensures) (omega arith))

pub returns : goal.returns
returns g c =
    let m = g.met.Self.Element in
    let S = g.Self.Element.shape in
    let e = c.args.self in
    let sound = faultless _ 0 c.in_default.ensures in
    let size = level_size S m.states (S.level e) (shallow S m.states m.lawful e sound) in
    let more = rw (c.rank-next.ensures, c.BITS.ensures, c.level-level.ensures) at c.if-next-BITS.false in
    ap accepted (c.placed.ensures ∙ ap₂ (λ (l p : ℕ). element_at S l (p + 1)) c.level-level.ensures c.rank-next.ensures)
    ∙ sym (successor_accepted S e sound (λ end. more (end ∙ sym size)))
