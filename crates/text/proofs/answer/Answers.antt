-- `answer` meets its contract: what is printed is printed where its length fits. Assumes nothing.
use mathlib.Core.Path.{◌∙◌}
use native.Mathlib.Nat.{zero-add}
use native.Mathlib.Omega.{arith}
use Rattle.forms.specs.Forms.{form_of}
use Rattle.text.specs.Inner.{spelled}
use Rattle.text.proofs.Buffers.{prints}
use Rattle.text.proofs.answer.Goals as goal

pub returns : goal.returns
returns c =
    let a = c.args in
    prints (spelled (form_of a.asked)) a.out.now c.print-size.result (c.print-size.ensures.end ∙ zero-add _) _ (omega (arith, c.if-out-size.false))
    c.print.ensures.written
