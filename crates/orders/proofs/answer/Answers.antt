-- `answer` meets its contract: what was read is printed, where its length fits. Assumes nothing.
use native.Mathlib.Omega.{arith}
use Rattle.forms.specs.Forms.{form_of}
use Rattle.orders.proofs.Answering.{answered, answered_all}
use Rattle.orders.proofs.answer.Goals as goal

pub returns-then-out-lt-LONGEST_OUTPUT : goal.returns-then-out-lt-LONGEST_OUTPUT
returns-then-out-lt-LONGEST_OUTPUT c =
    let a = c.args in
    answered a.input.now a.out.now (form_of c.read-asked.result) c.read-asked.ensures _ _ c.answer.ensures

pub returns : goal.returns
returns c =
    let a = c.args in
    answered_all a.input.now a.out.now (form_of c.read-asked.result) c.read-asked.ensures _ _ (omega (arith, c.if-out-lt-LONGEST_OUTPUT.false)) c.print.ensures
