-- `next` meets its contract: the run that the levels begin with, and the runs of what is left. Assumes nothing.
use mathlib.Core.Path.{◌≡◌, ap, ◌∙◌, sym}
use mathlib.Core.List.{List, ◌∷◌}
use Prim.Native.Nat.{◌-◌, ◌+◌}
use native.Mathlib.Omega.{arith}
use lib.ListN.{length, drop}
use Rattle.std.proofs.Common.{take_all, length-drop}
use Rattle.format.specs.File.{Run, run, runs_in}
use Rattle.writer.proofs.Writing.{runs_none, front_run}
use Rattle.writer.proofs.run.RunsIterator.next.Goals as goal

pub returns-in_err-level-clause-steps : goal.returns-in_err-level-clause-steps
returns-in_err-level-clause-steps c =
    let none = runs_none c.args.self.now.0.now c.in_err-level.ensures.cases in
    rw c.from_residual.ensures (none, none)

pub returns-clause-steps : goal.returns-clause-steps
returns-clause-steps c =
    let l = c.in_ok-level.field-0-0.now in
    let ls = c.in_ok-level.others.now in
    let n = c.same_in_front-same.result in
    let front : runs_in (l ∷ ls) ≡ run l (1 + n) ∷ runs_in (drop n ls) = rw c.same_in_front-same.ensures.same (front_run l ls) in
    ap runs_in c.in_ok-level.ensures.cases.0
    ∙ front
    ∙ ap (λ (rs : List Run). run l (1 + n) ∷ rs) (ap runs_in (sym (take_all (length ls - n) (drop n ls) (omega (arith, length-drop n ls)))))

pub returns-clause-goes : goal.returns-clause-goes
returns-clause-goes c =
    let e = returns-clause-steps c in
    record { on = λ f. (tt, tt, omega (arith, ap length e)); keeps = tt; rests = λ f. tt }
