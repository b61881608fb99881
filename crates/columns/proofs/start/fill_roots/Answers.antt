-- `fill_roots` meets its contract: each turn writes the entries of one root more. Assumes nothing.
use Rattle.std.proofs.Common.{ℕ, List, ◌*◌, ◌^◌, ap, ◌∙◌, arith}
use lib.Seq.{sets}
use Rattle.paper.specs.Outcome.{rows}
use Rattle.columns.proofs.Filling.{each_is, start_le, start_is, root_more, stored_part}
use Rattle.columns.proofs.start.fill_roots.Goals as goal

pub loop-r-preserved : goal.loop-r-preserved
loop-r-preserved c =
    let a = c.args in
    let r = c.loop-r.r in
    let from = start_is a.bits a.k r c.requires.1.0 c.loop-r-test.true in
    let each = each_is a.bits c.requires.0 in
    let least = start_le a.bits a.k r c.requires.1.0 c.loop-r-test.true in
    stored_part (λ i. r) c.loop-r.roots c.put.new.column (2 ^ a.bits) _ _ (omega (arith, c.requires.1.1)) (omega arith) c.put.ensures
    ∙ ap (λ (i : ℕ). sets c.loop-r.roots i (rows (λ j. r) 0 (2 ^ a.bits))) from
    ∙ ap (λ (l : List ℕ). sets l (r * 2 ^ a.bits) (rows (λ j. r) 0 (2 ^ a.bits))) c.loop-r.invariant
    ∙ root_more a.bits a.k r c.requires.1.0 c.loop-r-test.true a.roots.now c.requires.1.1
