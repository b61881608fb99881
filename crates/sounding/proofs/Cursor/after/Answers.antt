-- `after` meets its contract: the shifts are the powers. Assumes nothing.
use native.Mathlib.Omega.{arith}
use Rattle.format.proofs.Spots.{after_spot}
use Rattle.sounding.proofs.Cursor.after.Goals as goal

pub returns : goal.returns
returns c =
    let a = c.args in
    rw c.from.ensures (after_spot 3 21 a.level (omega arith) c.requires.level_le_highest a.self.root a.self.cell a.count c.requires.proper.cell c.requires.starts)
