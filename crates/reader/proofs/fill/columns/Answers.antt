-- `columns` meets its contract: each turn stores the leaves of one run more. Assumes nothing.
use mathlib.Core.Path.{◌≡◌, refl}
use Prim.Native.Nat.{◌-◌, ◌+◌}
use native.Mathlib.Nat.{sub-zero}
use native.Mathlib.Omega.{arith}
use lib.Pow.{pow_pos}
use Rattle.reader.proofs.Loans.{loans_kept, loans_after}
use Rattle.columns.specs.Lent.{held}
use Rattle.format.specs.Reading.{sound}
use Rattle.sounding.specs.Answers.{front_of, spot_of}
use Rattle.reader.proofs.Underway.{Turn, underway_start, level_there, level_low, count_there, turn_is, roots_kept, levels_kept, positions_kept, underway_all}
use Rattle.reader.proofs.fill.columns.Goals as goal
use Rattle.reader.proofs.fill.columns.Goals.{After-unwrap-count}

pub loop-run-init : goal.loop-run-init
loop-run-init c =
    let h = c.args.head in
    record {
      loans = loans_kept c.args.lent.now;
      underway = rw (sub-zero h.runs) (underway_start 8 21 h.roots (pow_pos 3) c.args.bytes.now _ _ h.runs h.at refl c.requires.runs_sound);
    }

pub unwrap-level-requires : goal.unwrap-level-requires
unwrap-level-requires c =
    let bs = c.args.bytes.now in
    let under = c.loop-run.invariant.underway in
    level_there 8 21 c.args.head.roots (pow_pos 3) bs _ _ _ _ _ _ _ under (omega arith) _ c.number_at.ensures

pub unwrap-count-requires : goal.unwrap-count-requires
unwrap-count-requires c =
    let bs = c.args.bytes.now in
    let under = c.loop-run.invariant.underway in
    count_there 8 21 c.args.head.roots (pow_pos 3) bs _ _ _ _ _ _ _ under (omega arith) _ _ c.number_at.ensures c.unwrap-level.ensures _ c.number_at-in-loop-run.ensures

pub overflow_cast-level : goal.overflow_cast-level
overflow_cast-level c =
    let bs = c.args.bytes.now in
    let under = c.loop-run.invariant.underway in
    omega (arith, level_low 8 21 c.args.head.roots (pow_pos 3) bs _ _ _ _ _ _ _ under (omega arith) _ _ c.number_at.ensures c.unwrap-level.ensures)

-- the run that the turn has read
run_found : (c : After-unwrap-count)
    → Turn 8 21 c.args.head.roots (pow_pos 3) c.args.bytes.now (sound 8 21 c.args.bytes.now (front_of c.args.head)).leaves (held c.args.lent.now) (c.args.head.runs - c.loop-run._run)
    c.loop-run.at (spot_of c.loop-run.come) c.loop-run.size (held c.loop-run.lent) c.unwrap-level.result.value c.unwrap-count.result.value c.unwrap-count.result.next
run_found c =
    turn_is 8 21 c.args.head.roots (pow_pos 3) c.args.bytes.now _ _ _ _ _ _ _ c.loop-run.invariant.underway (omega arith) _ _ c.number_at.ensures c.unwrap-level.ensures
    _ c.number_at-in-loop-run.ensures _ c.unwrap-count.ensures

pub run-come-requires-clause-running : goal.run-come-requires-clause-running
run-come-requires-clause-running c =
    let under = c.loop-run.invariant.underway in
    let turn = run_found (goal.at.run-come-requires-clause-running c).After-unwrap-count in
    record { shallow = turn.shallow; proper = under.proper; whole = turn.whole; low = omega (arith, turn.root_after, c.well_formed) }

pub run-come-requires-clause-room : goal.run-come-requires-clause-room
run-come-requires-clause-room c =
    let under = c.loop-run.invariant.underway in
    let turn = run_found (goal.at.run-come-requires-clause-room c).After-unwrap-count in
    let room = c.requires.room in
    record {
      in_roots = omega (arith, turn.room, room.in_roots, roots_kept 8 21 c.args.head.roots (pow_pos 3) c.args.bytes.now _ _ _ _ _ _ _ under room);
      in_levels = omega (arith, turn.room, room.in_levels, levels_kept 8 21 c.args.head.roots (pow_pos 3) c.args.bytes.now _ _ _ _ _ _ _ under room);
      in_positions = omega (arith, turn.room, room.in_positions, positions_kept 8 21 c.args.head.roots (pow_pos 3) c.args.bytes.now _ _ _ _ _ _ _ under room);
    }

pub overflow_add-size : goal.overflow_add-size
overflow_add-size c =
    let turn = run_found (goal.at.overflow_add-size c).After-unwrap-count in
    omega (arith, turn.few)

pub loop-run-preserved : goal.loop-run-preserved
loop-run-preserved c =
    let turn = run_found (goal.at.loop-run-preserved c).After-unwrap-count in
    let left = c.args.head.runs - c.loop-run._run in
    let less : c.args.head.runs - (c.loop-run._run + 1) ≡ left - 1 = omega arith in
    record {
      loans = loans_after _ _ _ c.loop-run.invariant.loans c.run-come.ensures.loans;
      underway = rw less (turn.more _ c.requires.room _ c.run-come.ensures.laid.ends c.run-come.ensures.laid.memory);
    }

pub returns-clause-filled : goal.returns-clause-filled
returns-clause-filled c =
    underway_all 8 21 c.args.head.roots (pow_pos 3) c.args.bytes.now _ _ _ _ _ _ _ c.loop-run.invariant.underway (omega arith)
