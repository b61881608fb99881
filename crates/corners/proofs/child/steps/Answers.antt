-- `steps` meets its contract: after i turns the word has its lowest i digits, and after eight all of them. Assumes nothing.
use Rattle.std.proofs.Common.{ℕ, ◌+◌, ◌*◌, ◌%◌, ◌^◌, ap, ◌∙◌}
use Rattle.corners.specs.Steps.{steps_to}
use Rattle.corners.proofs.Digits.{one_digit_more}
use Rattle.corners.proofs.child.steps.Goals as goal

pub loop-i-preserved : goal.loop-i-preserved
loop-i-preserved c =
    let i = c.loop-i.i in
    ap (λ (k : ℕ). k + c.step.result * 2 ^ (4 * i) % 2 ^ 32) c.loop-i.invariant
    ∙ one_digit_more (steps_to (c.args.corner % 3)) i c.step.result c.loop-i-test.true c.step.ensures
