-- `share_lines` meets its contract: before share s, the lines of the shares before it are written. Assumes nothing.
use Rattle.std.proofs.Common.{refl, arith}
use Rattle.text.proofs.Lines.{first_zero, listed_none, listed_more}
use Rattle.text.proofs.writer.Writer.share_lines.Goals as goal

pub loop-s-init : goal.loop-s-init
loop-s-init c = (omega arith, first_zero c.from-n.result c.from-p.result, listed_none c.from-n.result c.from-p.result _)

pub loop-s-preserved : goal.loop-s-preserved
loop-s-preserved c =
    let l = c.loop-s in
    (omega arith, refl, listed_more _ _ _ l.s l.from l.invariant.1 l.invariant.2 c.share_line.ensures.wrote)
