-- `sound` meets its contract: each turn reads one run more. Assumes nothing.
use mathlib.Core.Path.{◌≡◌, ◌∙◌, ap, sym}
use Prim.Native.Nat.{ℕ, ◌-◌, ◌+◌}
use native.Mathlib.Omega.{arith}
use lib.Pow.{pow_pos}
use Rattle.format.proofs.Taking.{run_taken}
use Rattle.format.proofs.Spots.{fits_whole}
use Rattle.sounding.specs.Inner.{walk_of, taken}
use Rattle.sounding.proofs.Counting.{going_more, going_stops, going_ends, told}
use Rattle.sounding.proofs.sound.Goals as goal

pub after-walk-requires-clause-follows : goal.after-walk-requires-clause-follows
after-walk-requires-clause-follows c =
    let h = c.args.head in
    let l = c.loop-kept in
    let run = c.in-Ok.run' in
    let t = run_taken 8 21 h.roots c.args.bytes.now (walk_of 0 l.walk) (taken run) (sym c.in-Ok.ensures) in
    record { shallow = t.shallow; starts = fits_whole 8 21 run.level h.roots (pow_pos 3) t.shallow (walk_of 0 l.walk).come run.count t.some t.fit; few = t.few }

pub returns-in-Err : goal.returns-in-Err
returns-in-Err c =
    let h = c.args.head in
    let l = c.loop-kept in
    let end = going_stops 8 21 h.roots (pow_pos 3) c.args.bytes.now h.runs h.at (h.runs - l.kept) (walk_of l.kept l.walk) l.invariant (omega arith) _ _ (sym c.in-Err.ensures) in
    rw c.stopped.ensures (told _ _ l.walk.before end.0 end.1)

pub loop-kept-preserved : goal.loop-kept-preserved
loop-kept-preserved c =
    let h = c.args.head in
    let l = c.loop-kept in
    let w = walk_of l.kept l.walk in
    let more = going_more 8 21 h.roots (pow_pos 3) c.args.bytes.now h.runs h.at (h.runs - l.kept) w l.invariant (omega arith) (taken c.in-Ok.run') (sym c.in-Ok.ensures) in
    let left : h.runs - (l.kept + 1) ≡ h.runs - l.kept - 1 = omega arith in
    rw (left, c.after-walk.ensures l.kept) more

pub returns : goal.returns
returns c =
    let h = c.args.head in
    let l = c.loop-kept in
    let end = going_ends 8 21 h.roots (pow_pos 3) c.args.bytes.now h.runs h.at (h.runs - l.kept) (walk_of l.kept l.walk) l.invariant (omega arith) in
    let all : l.kept ≡ h.runs = omega arith in
    rw c.stopped-2.ensures
    (told _ _ l.walk.before (end.0 ∙ ap (λ (m : ℕ). walk_of m l.walk) all) (end.1 ∙ sym c.ended.ensures))
