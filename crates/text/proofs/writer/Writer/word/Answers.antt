-- `word` meets its contract: where the bytes fit they are copied, and else laid as far as they go. Assumes nothing.
use Rattle.std.proofs.Common.{refl, arith}
use Rattle.text.proofs.Writing.{bytes_fit}
use Rattle.text.proofs.writer.Writer.word.Goals as goal

pub returns-then-end-self : goal.returns-then-end-self
returns-then-end-self c =
    let w = c.args.self.now in
    let fits = c.if-end-self.true in
    record {
      same_buffer = refl;
      put = record { written = bytes_fit w.out.now c.args.text.now _ w.at _ fits (omega arith) c.copy_from_slice.ensures.after; end = refl };
    }
