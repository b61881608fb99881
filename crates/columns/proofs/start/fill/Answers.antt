-- `fill` meets its contract: its three columns one after the other. Assumes nothing.
use Rattle.std.proofs.Common.{◌*◌, ◌^◌, ◌%◌, arith}
use Rattle.columns.specs.Lent.{held}
use Rattle.columns.proofs.Filling.{count_is, front_part}
use Rattle.columns.proofs.start.fill.Goals as goal

pub returns-clause-filled : goal.returns-clause-filled
returns-clause-filled c =
    let a = c.args in
    let m = held a.lent.now in
    let exact = count_is a.bits a.k c.requires.count_bound in
    record {
      in_roots = c.fill_roots.ensures;
      in_levels = front_part (λ i. a.level) m.levels c.put.new.column (a.k * 2 ^ a.bits) _ c.requires.room.in_levels (omega arith) c.put.ensures;
      in_positions = front_part (λ i. i % 2 ^ a.bits) m.positions c.fill_positions.new.positions (a.k * 2 ^ a.bits) _ c.requires.room.in_positions (omega arith) c.fill_positions.ensures;
    }
