-- `write` meets its contract: column by column; one, or eight at once, where there are so many. Assumes nothing.
use Rattle.std.proofs.Common.{◌+◌, ◌-◌, sym, arith}
use Rattle.leaves.specs.Leaves.{columns}
use Rattle.columns.specs.Lent.{held}
use Rattle.columns.proofs.Filling.{stored_part}
use Rattle.columns.proofs.Stretches.{stored_all, stored_as}
use Rattle.columns.proofs.stretch.write.Goals as goal

pub returns-then-count-eq8-clause-written : goal.returns-then-count-eq8-clause-written
returns-then-count-eq8-clause-written c =
    let a = c.args in
    let m = held a.lent.now in
    stored_as a.at a.first.root a.first.level a.first.position a.count m _ 8 (sym c.if-count-eq8.true)
    (stored_all a.at a.first.root a.first.level a.first.position 8 m (columns _ _ _)
    (stored_part (λ t. a.first.root) m.roots c.put.new.column 8 a.at (a.at + 8 - a.at) (omega (arith, c.requires.room.in_roots)) (omega arith) c.put.ensures)
    (stored_part (λ t. a.first.level) m.levels c.put-then-count-eq8.new.column 8 a.at (a.at + 8 - a.at) (omega (arith, c.requires.room.in_levels)) (omega arith) c.put-then-count-eq8.ensures)
    (stored_part (λ t. a.first.position + t) m.positions c.count_on.new.positions 8 a.at (a.at + 8 - a.at) (omega (arith, c.requires.room.in_positions)) (omega arith) c.count_on.ensures))

pub returns-clause-written : goal.returns-clause-written
returns-clause-written c =
    let a = c.args in
    let m = held a.lent.now in
    stored_all a.at a.first.root a.first.level a.first.position a.count m (columns _ _ _)
    (stored_part (λ t. a.first.root) m.roots c.put-2.new.column a.count a.at (a.at + a.count - a.at) c.requires.room.in_roots (omega arith) c.put-2.ensures)
    (stored_part (λ t. a.first.level) m.levels c.put-3.new.column a.count a.at (a.at + a.count - a.at) c.requires.room.in_levels (omega arith) c.put-3.ensures)
    (stored_part (λ t. a.first.position + t) m.positions c.count_on-2.new.positions a.count a.at (a.at + a.count - a.at) c.requires.room.in_positions (omega arith) c.count_on-2.ensures)
