-- `number_at` meets its contract: each way out is one case of what a number is. Assumes nothing.
use Rattle.std.proofs.Common.{sym, ◌∙◌}
use Rattle.fields.proofs.Judging.{number_missing, number_none, number_open, number_zero, number_is}
use Rattle.fields.proofs.digits.number_at.Goals as goal
use Rattle.fields.proofs.digits.number_at.Goals.{then-run-eq0-via-then-run-eq0, then-run-eq0-via-else-run-eq0+then-not-ends, then-run-eq0-via-else-run-eq0+else-not-ends+then-leading_zero}

pub returns-then-input-at : goal.returns-then-input-at
returns-then-input-at c = number_missing c.args.input.now c.args.at c.if-input-at.true

pub returns-then-run-eq0 : goal.returns-then-run-eq0
returns-then-run-eq0 c =
    let a = c.args in
    let r = c.digits-run in
    elim c.then-run-eq0.branch [
      | then-run-eq0-via-then-run-eq0 w ↦ number_none a.input.now a.at r.result r.ensures w.if-run-eq0.true
      | then-run-eq0-via-else-run-eq0+then-not-ends w ↦ number_open a.input.now a.at r.result r.ensures (sym w.ends.ensures ∙ w.if-not-ends.true)
      | then-run-eq0-via-else-run-eq0+else-not-ends+then-leading_zero w ↦
          number_zero a.input.now a.at r.result r.ensures w.if-run-eq0.false (sym w.ends.ensures ∙ w.if-not-ends.false)
          (sym w.leading_zero.ensures ∙ w.if-leading_zero.true)
    ]

pub returns : goal.returns
returns c =
    let a = c.args in
    number_is a.input.now a.at c.digits-run.result c.digits-run.ensures c.if-run-eq0.false (sym c.ends.ensures ∙ c.if-not-ends.false)
    (sym c.leading_zero.ensures ∙ c.if-leading_zero.false)
