-- `fill` meets its contract: the bytes before the gap, the 2, and the bytes after it. Assumes nothing.
use Rattle.converter.proofs.Fronts.{fill_gap}
use Rattle.converter.proofs.fill.fill.Goals as goal

pub returns : goal.returns
returns c =
    fill_gap c.args.input.now c.args.room.now c.args.at c.requires.at_in_bounds c.requires.input_in_bounds _ _ _
    c.lay.ensures c.lay-2.ensures c.lay-3.ensures
