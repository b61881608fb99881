-- `begins` meets its contract: the t leaves from i on have one level and carry 2. Assumes nothing.
use Rattle.std.proofs.Common.{ℕ, ◌≡◌, ◌%◌, ◌^◌, ap, sym, ◌∙◌, arith}
use mathlib.Core.Path.{subst}
use lib.Pow.{pow_pos}
use Rattle.leaves.specs.Leaves.{Leaf}
use Rattle.adaption.proofs.Width.{one_shifted}
use Rattle.adaption.proofs.Beginning.{none_at_root, none_of_younger, none_so_late, none_of_levels, none_of_marks, Alike, begins_family}
use Rattle.adaption.proofs.turn.begins.Goals as goal

pub returns-then-first-eq0 : goal.returns-then-first-eq0
returns-then-first-eq0 c =
    let a = c.args in
    sym (none_at_root (2 ^ a.bits) (pow_pos a.bits) a.list.now a.marks.now a.i c.requires.i_in_bounds (sym (ap (λ (v : Leaf). v.level) c.leaf-first.ensures) ∙ c.if-first-eq0.true))

pub returns-then-first-bits-ne0 : goal.returns-then-first-bits-ne0
returns-then-first-bits-ne0 c =
    let a = c.args in
    sym (none_of_younger (2 ^ a.bits) (pow_pos a.bits) a.list.now a.marks.now a.i c.requires.i_in_bounds (λ e. c.if-first-bits-ne0.true (ap (λ (k : ℕ). c.leaf-first.result.position % k) (one_shifted a.bits c.requires.bits_bound) ∙ ap (λ (v : Leaf). v.position % 2 ^ a.bits) c.leaf-first.ensures ∙ e)))

pub returns-then-len-i : goal.returns-then-len-i
returns-then-len-i c =
    let a = c.args in
    sym (none_so_late (2 ^ a.bits) (pow_pos a.bits) a.list.now a.marks.now a.i c.requires.i_in_bounds (omega (arith, c.if-len-i.true, one_shifted a.bits c.requires.bits_bound)))

pub returns-then-leaf-first : goal.returns-then-leaf-first
returns-then-leaf-first c =
    let a = c.args in
    sym (none_of_levels (2 ^ a.bits) (pow_pos a.bits) a.list.now a.marks.now a.i c.requires.i_in_bounds c.loop-t.t (omega (arith, c.loop-t-test.true, one_shifted a.bits c.requires.bits_bound)) (omega (arith, c.if-len-i.false, one_shifted a.bits c.requires.bits_bound)) (λ e. c.if-leaf-first.true (ap (λ (v : Leaf). v.level) c.leaf.ensures ∙ e ∙ sym (ap (λ (v : Leaf). v.level) c.leaf-first.ensures))))

pub returns-then-marks-i-ne2 : goal.returns-then-marks-i-ne2
returns-then-marks-i-ne2 c =
    let a = c.args in
    sym (none_of_marks (2 ^ a.bits) (pow_pos a.bits) a.list.now a.marks.now a.i c.requires.i_in_bounds c.loop-t.t (omega (arith, c.loop-t-test.true, one_shifted a.bits c.requires.bits_bound)) (omega (arith, c.if-len-i.false, one_shifted a.bits c.requires.bits_bound)) c.if-marks-i-ne2.true)

pub returns : goal.returns
returns c =
    let a = c.args in
    let all : c.loop-t.t ≡ 2 ^ a.bits = omega (arith, c.loop-t-test.false, one_shifted a.bits c.requires.bits_bound) in
    sym (begins_family (2 ^ a.bits) (pow_pos a.bits) a.list.now a.marks.now a.i c.requires.i_in_bounds c.requires.ready
    (λ none. c.if-first-eq0.false (ap (λ (v : Leaf). v.level) c.leaf-first.ensures ∙ none))
    (sym (ap (λ (v : Leaf). v.position % 2 ^ a.bits) c.leaf-first.ensures) ∙ ap (λ (k : ℕ). c.leaf-first.result.position % k) (sym (one_shifted a.bits c.requires.bits_bound)) ∙ c.if-first-bits-ne0.false)
    (omega (arith, c.if-len-i.false, one_shifted a.bits c.requires.bits_bound)) (subst (Alike a.list.now.levels a.marks.now a.i) all c.loop-t.invariant))
