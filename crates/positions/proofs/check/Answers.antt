-- `check` meets its contract: no position passes the bits of all, so where these are below the level's count every position is. Assumes nothing.
use Rattle.std.proofs.Common.{sym}
use Rattle.positions.proofs.Checking.{none_beyond}
use Rattle.positions.proofs.check.Goals as goal

pub returns-then-merged-level : goal.returns-then-merged-level
returns-then-merged-level c =
    sym (none_beyond c.args.level c.args.positions.now _ c.if-level-gt-HIGHEST.false c.merged.ensures c.if-merged-level.true)
