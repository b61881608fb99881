-- `element::start` meets its contract: a descendant more is a shift by a child number's bits. Assumes nothing.
use Rattle.tree.proofs.Stated.{start_is}
use Rattle.tree.proofs.element.start.Goals as goal

pub returns : goal.returns
returns g c =
    let m = g.met.E.Element in
    rw (c.rank.ensures, c.BITS.ensures, c.level.ensures) (start_is _ m.states m.lawful c.args.e c.requires)
