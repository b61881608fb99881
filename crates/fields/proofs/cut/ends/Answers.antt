-- `ends` meets its contract: what is left of the field is nothing where the input, the line or the field ends. Assumes nothing.
use Rattle.std.proofs.Common.{sym, ap, ◌∙◌, eq-eqb}
use borrow.Author.Tests.{ltb-false}
use lib.Dec.{eqb}
use Prim.Native.Nat.{ℕ}
use Rattle.fields.proofs.Cursor.{end_none, end_lf, ends_by_byte}
use Rattle.fields.proofs.cut.ends.Goals as goal

pub returns-in-None : goal.returns-in-None
returns-in-None c = sym (eq-eqb _ 0 (end_none c.args.input.now c.args.i (ltb-false _ _ (sym c.in-None.ensures.lookup.0))))

pub returns-then-b-eq10 : goal.returns-then-b-eq10
returns-then-b-eq10 c =
    let is = c.in-Some.ensures.lookup.3 in
    eq-eqb _ 10 c.if-b-eq10.true ∙ sym (eq-eqb _ 0 (end_lf c.args.input.now c.args.i is.0 (sym (is.1 0) ∙ c.if-b-eq10.true)))

pub returns-else-b-eq10 : goal.returns-else-b-eq10
returns-else-b-eq10 c =
    let is = c.in-Some.ensures.lookup.3 in
    ap (λ (b : ℕ). eqb b 59) (is.1 0) ∙ sym (ends_by_byte c.args.input.now c.args.i is.0 (λ lf. c.if-b-eq10.false (is.1 0 ∙ lf)))
