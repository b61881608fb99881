-- `all_near` meets its contract: the answer is that of the leaves before i and of those from i on, after leaf i - 1. Assumes nothing.
use Rattle.std.proofs.Common.{Bool, ◌&&◌, length, ap, sym, ◌∙◌}
use mathlib.Core.Bool.{and-true}
use Rattle.leaves.specs.Leaves.{columns, leaf_at}
use Rattle.balance.proofs.Pairs.{pairs_start, pairs_more, pairs_done}
use Rattle.balance.proofs.all_near.Goals as goal

pub loop-i-init : goal.loop-i-init
loop-i-init c =
    let a = c.args in
    λ positions. pairs_start (leaf_at (columns a.roots.now a.levels.now positions)) (length a.roots.now) c.requires.0

pub loop-i-preserved : goal.loop-i-preserved
loop-i-preserved c =
    let a = c.args in
    let at = c.loop-i in
    let asked = c.near_levels-near in
    λ positions. at.invariant positions
    ∙ pairs_more (leaf_at (columns a.roots.now a.levels.now positions)) (length a.roots.now) at.i c.loop-i-test.true at.all asked.result asked.ensures

pub returns : goal.returns
returns c =
    let a = c.args in
    let at = c.loop-i in
    λ positions. sym (at.invariant positions
    ∙ ap (λ (t : Bool). at.all && t) (pairs_done (leaf_at (columns a.roots.now a.levels.now positions)) (length a.roots.now) at.i c.loop-i-test.false)
    ∙ and-true at.all)
