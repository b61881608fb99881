-- `head_at` meets its contract: the tag, K and the number of runs, test by test. Assumes nothing.
use mathlib.Core.Path.{◌≡◌, refl, ◌∙◌, sym}
use mathlib.Core.Bool.{Bool, true}
use mathlib.Core.List.{List, [], ◌∷◌}
use Prim.Native.Nat.{ℕ, ◌≤◌}
use native.Mathlib.Omega.{arith}
use Rattle.std.proofs.lemmas.Result.{err_from_is_err_and}
use Rattle.std.specs.List.{starts_with}
use Rattle.std.specs.Prelude.{nat_eq}
use Rattle.std.proofs.lemmas.Grind.{common_steps}
use Rattle.paper.specs.Outcome.{accepted, refused}
use Rattle.format.specs.File.{tag}
use Rattle.format.specs.Reading.{opens, after_runs, after_roots, head_at}
use Rattle.numbers.specs.Numbers.{Found, found, number_at}
use Rattle.format.proofs.Tests.{roots_read, no_roots, many_roots, runs_read, runs_refused, no_runs, many_runs, head_is}
use Rattle.sounding.proofs.head_at.Goals as goal
use Rattle.sounding.proofs.head_at.Goals.{After-number_at-2}
use Rattle.sounding.proofs.head_at.Goals.{then-roots-eq0-via-then-roots-eq0, then-roots-eq0-via-else-roots-eq0+then-from-roots}
use Rattle.sounding.proofs.head_at.Goals.{then-runs-eq0-via-then-runs-eq0, then-runs-eq0-via-else-runs-eq0+then-runs-gt-LIMIT}

tag_opens : (bs : List ℕ) → starts_with nat_eq bs tag ≡ opens bs
tag_opens [] = refl
tag_opens (a ∷ []) = grind (arith, common_steps)
tag_opens (a ∷ b ∷ []) = grind (arith, common_steps)
tag_opens (a ∷ b ∷ c ∷ []) = grind (arith, common_steps)
tag_opens (a ∷ b ∷ c ∷ d ∷ es) = grind (arith, common_steps)

-- K was read, and the number of runs
module _ (bs : List ℕ) (t : Bool) (starts : t ≡ starts_with nat_eq bs tag) (tagged : t ≡ true) (k : Found) (is : accepted k ≡ number_at bs 4) where
  front : head_at bs ≡ after_roots bs k
  front = roots_read bs (sym (tag_opens bs) ∙ sym starts ∙ tagged) k (sym is)

  module _ (some : k.value ≡ 0 → ⊥) (few : k.value ≤ 4096) where
    onward : (r : Found) → accepted r ≡ number_at bs k.next → head_at bs ≡ after_runs k r
    onward r e = front ∙ runs_read bs k some few r (sym e)

    no_number : (number place : ℕ) → refused number place ≡ number_at bs k.next → head_at bs ≡ refused number place
    no_number number place e = front ∙ runs_refused bs k some few number place (sym e)

pub returns-then-roots-eq0 : goal.returns-then-roots-eq0
returns-then-roots-eq0 c =
    let bs = c.args.bytes.now in
    let k = found c.in_ok-roots.roots.value c.in_ok-roots.roots.next in
    let read = front bs _ c.starts_with.ensures.value c.if-not-starts_with.false k c.in_ok-roots.ensures in
    elim c.then-roots-eq0.branch [
      | then-roots-eq0-via-then-roots-eq0 w ↦ sym (read ∙ no_roots bs k w.if-roots-eq0.true)
      | then-roots-eq0-via-else-roots-eq0+then-from-roots w ↦ sym (read ∙ many_roots bs k w.if-roots-eq0.false (omega (arith, w.from.ensures)))
    ]

-- K is in range, and behind it is the number of runs
few_roots : (c : After-number_at-2) → c.in_ok-roots.roots.value ≤ 4096
few_roots c = omega (arith, c.from.ensures, c.if-from-roots.false)

runs_next : (c : After-number_at-2) (r : Found) → accepted r ≡ number_at c.args.bytes.now c.in_ok-roots.roots.next
    → head_at c.args.bytes.now ≡ after_runs (found c.in_ok-roots.roots.value c.in_ok-roots.roots.next) r
runs_next c =
    onward c.args.bytes.now _ c.starts_with.ensures.value c.if-not-starts_with.false (found c.in_ok-roots.roots.value c.in_ok-roots.roots.next) c.in_ok-roots.ensures
    c.if-roots-eq0.false (few_roots c)

pub returns-in_err-runs : goal.returns-in_err-runs
returns-in_err-runs c =
    let k = found c.in_ok-roots.roots.value c.in_ok-roots.roots.next in
    let p = err_from_is_err_and c.from_residual-in_err-runs.result c.from_residual-in_err-runs.ensures.1 in
    rw (p.1, p.2)
    (sym (no_number c.args.bytes.now _ c.starts_with.ensures.value c.if-not-starts_with.false k c.in_ok-roots.ensures c.if-roots-eq0.false (few_roots (goal.at.returns-in_err-runs c).After-number_at-2) _ _ c.in_err-runs.ensures))

pub returns-then-runs-eq0 : goal.returns-then-runs-eq0
returns-then-runs-eq0 c =
    let k = found c.in_ok-roots.roots.value c.in_ok-roots.roots.next in
    let r = found c.in_ok-runs.runs.value c.in_ok-runs.runs.next in
    let read = runs_next (goal.at.returns-then-runs-eq0 c).After-number_at-2 r c.in_ok-runs.ensures in
    elim c.then-runs-eq0.branch [
      | then-runs-eq0-via-then-runs-eq0 w ↦ sym (read ∙ no_runs k r w.if-runs-eq0.true)
      | then-runs-eq0-via-else-runs-eq0+then-runs-gt-LIMIT w ↦ sym (read ∙ many_runs k r w.if-runs-eq0.false w.if-runs-gt-LIMIT.true)
    ]

pub returns : goal.returns
returns c =
    let k = found c.in_ok-roots.roots.value c.in_ok-roots.roots.next in
    let r = found c.in_ok-runs.runs.value c.in_ok-runs.runs.next in
    sym (runs_next (goal.at.returns c).After-number_at-2 r c.in_ok-runs.ensures
    ∙ head_is k r c.if-runs-eq0.false c.if-runs-gt-LIMIT.false)
