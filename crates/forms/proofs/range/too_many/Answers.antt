-- `too_many` meets its contract: the product passes the limit where the limit, divided, stays below the roots. Assumes nothing.
use Rattle.std.proofs.Common.{sym, ◌∙◌}
use borrow.Author.Tests.{lt-ltb}
use Rattle.forms.proofs.Ranges.{deep_many, level_test}
use Rattle.forms.proofs.range.too_many.Goals as goal

pub returns-then-level-gt6 : goal.returns-then-level-gt6
returns-then-level-gt6 c = lt-ltb 6 c.args.level c.if-level-gt6.true ∙ sym (deep_many c.args.k c.args.level c.if-k-ne0.true c.if-level-gt6.true)

pub returns-else-level-gt6 : goal.returns-else-level-gt6
returns-else-level-gt6 c = level_test c.args.k c.args.level
