-- `copied` meets its contract: the line at the front of the buffer, where it fits. Assumes nothing.
use mathlib.Core.Path.{refl}
use lib.ListN.{length}
use Rattle.text.proofs.Buffers.{prints}
use Rattle.converter.proofs.copied.Goals as goal

pub returns : goal.returns
returns c =
    let a = c.args in
    prints a.line.now a.out.now (length a.line.now) refl _ c.if-out-line.false c.lay.ensures
