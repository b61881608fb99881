-- `run_at` meets its contract: its tests in turn. Assumes nothing.
use mathlib.Core.Path.{◌∙◌, sym}
use mathlib.Core.Bool.{true, false}
use native.Mathlib.Omega.{arith}
use Rattle.numbers.specs.Numbers.{found}
use Rattle.sounding.specs.Inner.{walk_of}
use Rattle.sounding.proofs.Fit.{run_read}
use Rattle.sounding.proofs.walk.Walk.run_at.Goals as goal
use Rattle.sounding.proofs.walk.Walk.run_at.Goals.{then-not-starts-via-then-not-starts, then-not-starts-via-else-not-starts+then-not-within}

pub returns-then-not-starts : goal.returns-then-not-starts
returns-then-not-starts c =
    let a = c.args in
    let l = c.in_ok-level.level in
    let k = c.in_ok-count.count in
    let read =
    run_read 8 21 (omega arith) a.bytes.now a.k (walk_of 0 a.self) (found l.value l.next) (found k.value k.next) (omega arith) c.if-count-eq0.false c.requires.spot.cell
    (λ same. c.if-from-level-2.false (c.from-2.ensures ∙ same)) (omega (arith, c.from-3.ensures)) (sym c.in_ok-level.ensures) (sym c.in_ok-count.ensures) false in
    elim c.then-not-starts.branch [
      | then-not-starts-via-then-not-starts w ↦ sym (read (simp (sym c.starts.ensures ∙ w.if-not-starts.true)))
      | then-not-starts-via-else-not-starts+then-not-within w ↦
          sym (read (simp (sym c.starts.ensures ∙ w.if-not-starts.false, sym w.after.ensures, sym w.within.ensures ∙ w.if-not-within.true)))
    ]

pub returns : goal.returns
returns c =
    let a = c.args in
    let l = c.in_ok-level.level in
    let k = c.in_ok-count.count in
    sym (run_read 8 21 (omega arith) a.bytes.now a.k (walk_of 0 a.self) (found l.value l.next) (found k.value k.next) (omega arith) c.if-count-eq0.false c.requires.spot.cell
    (λ same. c.if-from-level-2.false (c.from-2.ensures ∙ same)) (omega (arith, c.from-3.ensures)) (sym c.in_ok-level.ensures) (sym c.in_ok-count.ensures) true
    (simp (sym c.starts.ensures ∙ c.if-not-starts.false, sym c.after.ensures, sym c.within.ensures ∙ c.if-not-within.false)))
