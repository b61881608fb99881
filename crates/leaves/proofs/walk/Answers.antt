-- `walk` meets its contract: with all roots filled, the list ends there, or its next leaf is in none of them. Assumes nothing.
use Rattle.std.proofs.Common.{ℕ, ◌≡◌, ◌≤◌, ◌^◌, refl, ap, sym, ◌∙◌, arith}
use Rattle.std.proofs.lemmas.Result.{err_from_is_err_and}
use Rattle.paper.specs.Outcome.{passed}
use Rattle.leaves.specs.Leaves.{leaf_at, room, spot_at}
use Rattle.leaves.specs.Lists.{leaf_of}
use Rattle.leaves.specs.Inner.{rest_of}
use Rattle.leaves.proofs.Steps.{walk_out}
use Rattle.leaves.proofs.Turns.{walk_full}
use Rattle.leaves.proofs.walk.Goals as goal

pub returns-in_err-over : goal.returns-in_err-over
returns-in_err-over c =
    let a = c.args in
    let all : c.loop-root.root ≡ a.k = omega arith in
    let p = err_from_is_err_and c.from_residual-in_err-over.result c.from_residual-in_err-over.ensures.1 in
    rw (p.1, p.2) (sym (
    c.loop-root.invariant.filled
    ∙ ap (λ (r : ℕ). rest_of (2 ^ a.bits) a.highest a.k c.loop-root.from (spot_at r 0) a.list.now) all
    ∙ walk_out (2 ^ a.bits) a.highest a.k passed (leaf_at a.list.now) (room a.list.now) c.loop-root.from (spot_at a.k 0) (leaf_of c.leaf.result) c.leaf.ensures (omega arith) _ _ c.in_err-over.ensures
    ))

pub returns-else-from-len : goal.returns-else-from-len
returns-else-from-len c =
    let a = c.args in
    let end : room a.list.now ≤ c.loop-root.from = omega arith in
    sym (c.loop-root.invariant.filled ∙ walk_full (2 ^ a.bits) a.highest a.k passed (leaf_at a.list.now) (room a.list.now) c.loop-root.from (spot_at c.loop-root.root 0) end (omega arith) refl)
