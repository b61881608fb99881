-- `same_in_front` meets its contract: the blocks, and then the levels up to the first other one. Assumes nothing.
use mathlib.Core.Path.{◌∙◌}
use mathlib.Core.Bool.{not}
use native.Mathlib.Omega.{arith}
use borrow.Author.Rules.{rules}
use borrow.Author.Tests.{tests}
use Rattle.std.proofs.lemmas.Iterator.{YieldsList-from_slice}
use Rattle.std.proofs.lemmas.Iterator.Search.{position_from_yields_List}
use Rattle.std.proofs.lemmas.List.Sums.{prefix_len-le-length}
use Rattle.writer.specs.Inner.{other}
use Rattle.writer.proofs.Ending.{found_or_all, first_other}
use Rattle.writer.proofs.run.same_in_front.Goals as goal

pub returns-clause-same : goal.returns-clause-same
returns-clause-same c =
    let l = c.args.level in
    let rest = c.after_blocks-rest.result.now in
    let found =
    position_from_yields_List (other l) _ _ c.position.result c.position.ensures.ran (YieldsList-from_slice rest cc)
    (λ x b q k. search (rules, tests)) in
    rw (c.unwrap_or-same.ensures ∙ found_or_all rest l _ found) (first_other l c.args.levels.now rest c.after_blocks-rest.ensures)

pub returns-clause-within : goal.returns-clause-within
returns-clause-within c =
    omega (arith, returns-clause-same c, prefix_len-le-length (λ x. not (other c.args.level x)) c.args.levels.now)
