-- `stride` meets its contract: each turn adds the weight of 16 leaves that keeps the sum within the limit. Assumes nothing.
use Rattle.std.proofs.Common.{◌≡◌, ℕ, ◌+◌, ◌-◌, ◌≤◌, length, take, drop, length-append, length-drop, ap, sym, ◌∙◌, arith}
use Rattle.std.proofs.lemmas.List.{take_at, drop_at, drop-drop}
use Rattle.shares.specs.Shares.{total}
use Rattle.shares.proofs.Turns.{reached_part}
use Rattle.shares.proofs.division.stride.Goals as goal

pub loop-part-preserved : goal.loop-part-preserved
loop-part-preserved c =
    let ws = c.args.weights.now in
    let at = c.loop-part.invariant in
    let count = c.loop-part.at.count in
    let step = c.in-Some.ensures.steps in
    let part = c.in-Some.part.now in
    let rest = c.next.new.self.rest.now in
    let long : length part ≡ 16 = omega (arith, step.1.1, at.size) in
    let here = sym step.1.0 ∙ at.left in
    let sixteen : count + 16 - count ≡ 16 = omega arith in
    let inside : count + 16 ≤ length ws = omega (arith, ap length here, length-append part rest, length-drop count ws, long, at.within.within) in
    record {
      next = omega (arith, at.next, step.0);
      finite = tt;
      size = omega (arith, at.size, step.0);
      left = sym (drop_at part rest 16 long) ∙ ap (drop 16) here ∙ drop-drop 16 count ws;
      within = reached_part at.within (count + 16) c.part_weight.result (omega arith) inside
          (c.part_weight.ensures.0 ∙ ap total (sym (take_at part rest 16 long) ∙ ap (take 16) here) ∙ ap (λ (k : ℕ). total (take k (drop count ws))) (sym sixteen))
          c.if-limit-sum.false;
    }
