-- `write` meets its contract: the turns before leaf i have written the first leaves of the result. Assumes nothing.
use Rattle.std.proofs.Common.{◌<◌, ◌^◌, length, rules, refl, sym, ◌∙◌, arith}
use lib.Pow.{pow_pos}
use Rattle.leaves.specs.Leaves.{leaves}
use Rattle.leaves.specs.Lists.{leaf_of}
use Rattle.leaves.proofs.Columns.{leaves_length, nth_leaves}
use Rattle.columns.specs.Lent.{held}
use Rattle.adaption.specs.Inner.{turn_of}
use Rattle.adaption.proofs.Passing.{underway_none, underway_next, underway_all, room_for}
use Rattle.adaption.proofs.Fitting.{turns}
use Rattle.adaption.proofs.pass.write.Goals as goal

pub loop-i-init : goal.loop-i-init
loop-i-init c =
    let a = c.args in
    record {
      loans = record { roots = refl; levels = refl; positions = refl };
      underway = underway_none (2 ^ a.bits) (pow_pos a.bits) (leaves a.list.now) a.marks.now (held a.lent.now);
    }

pub first-first-requires-clause-turns : goal.first-first-requires-clause-turns
first-first-requires-clause-turns c =
    let a = c.args in
    turns (2 ^ a.bits) (pow_pos a.bits) a.list.now a.marks.now c.requires.ready c.loop-i.i (omega arith) c.loop-i.invariant.underway.along.clear
    (turn_of c.at-turn.result) c.at-turn.ensures (leaf_of c.leaf.result) c.leaf.ensures

pub lay-requires-clause-room : goal.lay-requires-clause-room
lay-requires-clause-room c =
    let a = c.args in
    room_for (2 ^ a.bits) (pow_pos a.bits) (leaves a.list.now) a.marks.now (held a.lent.now) c.loop-i.i c.loop-i.size (held c.loop-i.lent) c.loop-i.invariant.underway
    c.requires.room (omega (arith, leaves_length a.list.now)) (turn_of c.at-turn.result) c.at-turn.ensures

pub loop-i-preserved : goal.loop-i-preserved
loop-i-preserved c =
    let a = c.args in
    let inside : c.loop-i.i < length a.list.now.roots = omega arith in
    record {
      loans = search rules;
      underway = underway_next (2 ^ a.bits) (pow_pos a.bits) (leaves a.list.now) a.marks.now (held a.lent.now) c.loop-i.i c.loop-i.size (held c.loop-i.lent) c.loop-i.invariant.underway
          c.requires.room (omega (arith, leaves_length a.list.now)) _ (leaf_of c.leaf.result) (leaf_of c.first-first.result) (turn_of c.at-turn.result) c.taken-i.result c.made-size.result
          (c.leaf.ensures ∙ sym (nth_leaves a.list.now c.loop-i.i inside)) c.at-turn.ensures c.first-first.ensures c.taken-i.ensures c.made-size.ensures c.lay.ensures.laid;
    }

pub returns-clause-written : goal.returns-clause-written
returns-clause-written c =
    let a = c.args in
    underway_all (2 ^ a.bits) (pow_pos a.bits) (leaves a.list.now) a.marks.now (held a.lent.now) c.loop-i.i c.loop-i.size (held c.loop-i.lent) c.loop-i.invariant.underway
    (omega (arith, leaves_length a.list.now))
