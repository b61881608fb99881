-- `answer_refusal` meets its contract: the line is printed where its length fits. Assumes nothing.
use mathlib.Core.Path.{◌∙◌}
use native.Mathlib.Nat.{zero-add}
use native.Mathlib.Omega.{arith}
use Rattle.text.specs.Text.{refusal_line}
use Rattle.text.proofs.Buffers.{prints}
use Rattle.text.proofs.answer_refusal.Goals as goal

pub returns : goal.returns
returns c =
    let a = c.args in
    prints (refusal_line a.number a.field) a.out.now c.print_refusal-needed.result (c.print_refusal-needed.ensures.end ∙ zero-add _) _
    (omega (arith, c.if-out-needed.false)) c.print_refusal.ensures.written
