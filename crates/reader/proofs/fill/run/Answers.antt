-- `run` meets its contract: each turn lays what is left of a root, or of the run. Assumes nothing.
use Prim.Native.Nat.{◌≤◌}
use native.Mathlib.Omega.{arith}
use Rattle.sounding.specs.Answers.{spot_of}
use Rattle.reader.proofs.Loans.{loans_kept, loans_after}
use Rattle.reader.proofs.Laying.{laid_start, root_low, laid_full, laid_within, some_each, each_small, first_below, end_low, laid_run}
use Rattle.reader.proofs.fill.run.Goals as goal
use Rattle.reader.proofs.fill.run.Goals.{After-min-many}

pub loop-done-init : goal.loop-done-init
loop-done-init c =
    let a = c.args in
    record {
      loans = loans_kept a.lent.now;
      laid = laid_start a.level _ a.count a.come.root _ a.at _ (first_below a.level a.count (spot_of a.come) c.requires.running);
    }

-- the root that the turn has come to is one that 16 bits can number
root_numbered : (c : After-min-many) → c.loop-done.root ≤ 65535
root_numbered c =
    let a = c.args in
    let f = c.requires.running in
    omega (arith, root_low _ _ _ _ _ _ _ _ _ _ _ c.loop-done.invariant.laid (some_each a.level a.count (spot_of a.come) f) (end_low a.level a.count (spot_of a.come) f))

pub overflow_cast-first : goal.overflow_cast-first
overflow_cast-first c = omega (arith, root_numbered (goal.at.overflow_cast-first c).After-min-many)

pub overflow_add-root : goal.overflow_add-root
overflow_add-root c = omega (arith, root_numbered (goal.at.overflow_add-root c).After-min-many)

pub loop-done-preserved-then-position-each : goal.loop-done-preserved-then-position-each
loop-done-preserved-then-position-each c =
    let a = c.args in
    let f = c.requires.running in
    record {
      loans = loans_after _ _ _ c.loop-done.invariant.loans c.lay.ensures.loans;
      laid =
          laid_full _ _ _ _ _ _ _ _ _ _ _ c.loop-done.invariant.laid (some_each a.level a.count (spot_of a.come) f) (each_small a.level a.count (spot_of a.come) f) c.requires.room
          _ _ _ (omega (arith, c.min-many.ensures)) (omega (arith, c.min-many.ensures, c.from.ensures, c.from-in-loop-done.ensures)) c.lay.ensures.laid c.if-position-each.true;
    }

pub loop-done-preserved : goal.loop-done-preserved
loop-done-preserved c =
    let a = c.args in
    let f = c.requires.running in
    record {
      loans = loans_after _ _ _ c.loop-done.invariant.loans c.lay.ensures.loans;
      laid =
          laid_within _ _ _ _ _ _ _ _ _ _ _ c.loop-done.invariant.laid (some_each a.level a.count (spot_of a.come) f) (each_small a.level a.count (spot_of a.come) f) c.requires.room
          _ _ _ (omega (arith, c.min-many.ensures)) (omega (arith, c.min-many.ensures, c.from.ensures, c.from-in-loop-done.ensures)) c.lay.ensures.laid c.if-position-each.false;
    }

pub returns-clause-laid : goal.returns-clause-laid
returns-clause-laid c =
    let a = c.args in
    laid_run a.level a.count (spot_of a.come) c.requires.running a.at _ _ _ _ _ c.loop-done.invariant.laid (omega (arith, c.loop-done-test.false, c.from.ensures))
