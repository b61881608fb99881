-- `uniform` meets its contract: each way out is one case of the call. Assumes nothing.
use Rattle.std.proofs.Common.{ℕ, ◌*◌, ◌^◌, ◌≤◌, ◌<◌, length, sym, arith}
use mathlib.Core.Path.{subst⁻¹}
use Rattle.std.specs.declared.result.Result.TheVariants.{Err}
use Rattle.paper.specs.declared.Refusal.TheVariants.{TooManyLeaves, NoRoom}
use Rattle.leaves.specs.Calls.{Started}
use Rattle.leaves.proofs.Starting.{too_many, few_enough, count_exact, leaves_shifted}
use Rattle.leaves.proofs.Lists.{even_of}
use Rattle.columns.specs.Lent.{held}
use Rattle.columns.proofs.Starting.{many_15, room_14, fits, not_started, started}
use Rattle.columns.proofs.uniform.Goals as goal

pub returns-then-level-k-clause-started : goal.returns-then-level-k-clause-started
returns-then-level-k-clause-started c =
    let a = c.args in
    let m = held a.lent.now in
    not_started a.k a.level m (TooManyLeaves 0)
    (many_15 a.k a.level m (sym c.if-out_of_range.ensures) (sym c.if-not-is_even.ensures) c.if-level-gt-HIGHEST.false (too_many a.k a.level 1048576 c.if-level-k.true))

pub returns-then-lent-count-clause-started : goal.returns-then-lent-count-clause-started
returns-then-lent-count-clause-started c =
    let a = c.args in
    let m = held a.lent.now in
    let few = few_enough a.k a.level 1048576 c.if-level-k.false in
    let exact = count_exact a.k a.level few in
    let short : length m.roots < a.k * 8 ^ a.level = rw (sym exact) c.if-lent-count.true in
    subst⁻¹ (λ (size : ℕ). Started a.k a.level (Err (NoRoom size)) m m) exact
    (not_started a.k a.level m (NoRoom (a.k * 8 ^ a.level)) (room_14 a.k a.level m (sym c.if-out_of_range.ensures) (sym c.if-not-is_even.ensures) c.if-level-gt-HIGHEST.false few short))

pub fill-requires : goal.fill-requires
fill-requires c =
    let a = c.args in
    let m = held a.lent.now in
    let shifted = leaves_shifted a.k a.level in
    let few = few_enough a.k a.level 1048576 c.if-level-k.false in
    let exact = count_exact a.k a.level few in
    let room : a.k * 8 ^ a.level ≤ length m.roots = rw (sym exact) c.if-lent-count.false in
    let even = even_of m (sym c.if-not-is_even.ensures) in
    record {
      bits_bound = omega (arith, c.if-level-gt-HIGHEST.false);
      count_bound = rw shifted at few;
      room = record { in_roots = rw shifted at room; in_levels = omega (arith, shifted, room, even.levels_long); in_positions = omega (arith, shifted, room, even.positions_long) };
    }

pub returns-clause-started : goal.returns-clause-started
returns-clause-started c =
    let a = c.args in
    let m = held a.lent.now in
    let few = few_enough a.k a.level 1048576 c.if-level-k.false in
    let exact = count_exact a.k a.level few in
    let room : a.k * 8 ^ a.level ≤ length m.roots = rw (sym exact) c.if-lent-count.false in
    started a.k a.level m _ _ exact c.fill.ensures.filled (fits a.k a.level m (sym c.if-out_of_range.ensures) (sym c.if-not-is_even.ensures) c.if-level-gt-HIGHEST.false few room)
