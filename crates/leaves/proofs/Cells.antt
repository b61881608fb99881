-- A valid list holds each smallest cell once: counted through all roots, each leaf holds the cells from its start to its end, and the
-- next leaf starts there. Assumes nothing.
use mathlib.Core.Path.{◌≡◌, refl, ap, ◌∙◌, sym}
use mathlib.Core.List.{List, [], ◌∷◌}
use Prim.Native.Nat.{ℕ, zero, suc, ◌+◌, ◌-◌, ◌*◌, ◌^◌, ◌≤◌, ◌<◌}
use native.Mathlib.Nat.{div-mul-le_self, lt-div-mul-add, div-eq_of_lt-le, mul-le-mul_right}
use native.Mathlib.Decide.{dec_lt, ℕ_discrete}
use native.Mathlib.Omega.{arith}
use lib.ListN.{length}
use Rattle.paper.specs.Exactly.{ExactlyOne}
use Rattle.leaves.specs.Leaves.{Leaf, nth, Spot, spot_at, span, begin, past, start_of, end_of, Covers, Valid}
use Rattle.leaves.specs.Laws.{Holds}
use Rattle.leaves.proofs.Span.{more_mul, quotient, power_pos, past_begin, past_le, end_last, end_within}

module _ (n L : ℕ) where
  -- cell q of root r lies in exactly one leaf; each smallest cell of each root does
  abbrev pub Once : List Leaf → ℕ → ℕ → Type 0
  Once vs r q = ExactlyOne (length vs) (λ j. Holds n L (nth vs j) r q)

  abbrev pub OnceEach : ℕ → List Leaf → Type 0
  OnceEach K vs = (r q : ℕ) → r < K → q < n ^ L → Once vs r q

  -- ---- the number of a place, counted through all roots
  abbrev pub number : Spot → ℕ
  number c = c.root * n ^ L + c.cell

  pub number_end : (v : Leaf) → number (end_of n L v) ≡ number (start_of n L v) + span n L v.level
  number_end v = by (ℕ_discrete (past n L v) (n ^ L))
    where
      by : Dec (past n L v ≡ n ^ L) → number (end_of n L v) ≡ number (start_of n L v) + span n L v.level
      by (yes last) = ap number (end_last n L v last) ∙ omega (arith, more_mul v.root (n ^ L), past_begin n L v)
      by (no within) = ap number (end_within n L v within) ∙ omega (arith, past_begin n L v)

  -- ---- the cells that a leaf holds, by number
  holds_from : (v : Leaf) (r q : ℕ) → Holds n L v r q → number (start_of n L v) ≤ r * n ^ L + q
  holds_from v r q h =
      let same : v.root * n ^ L ≡ r * n ^ L = ap (λ (k : ℕ). k * n ^ L) h.root in
      let low : begin n L v ≤ q = rw h.ancestor at (div-mul-le_self q (span n L v.level)) in
      omega arith

  holds_to : 0 < n → (v : Leaf) (r q : ℕ) → Holds n L v r q → r * n ^ L + q < number (end_of n L v)
  holds_to positive v r q h =
      let same : v.root * n ^ L ≡ r * n ^ L = ap (λ (k : ℕ). k * n ^ L) h.root in
      let high : q < begin n L v + span n L v.level =
      rw h.ancestor at (lt-div-mul-add {a = q} (power_pos n (L - v.level) positive)) in
      omega (arith, number_end v)

  between_holds : (v : Leaf) (r q : ℕ) → v.level ≤ L → v.position < n ^ v.level → q < n ^ L
      → number (start_of n L v) ≤ r * n ^ L + q → r * n ^ L + q < number (end_of n L v) → Holds n L v r q
  between_holds v r q shallow below small from to =
      let whole = past_begin n L v in
      let over : r * n ^ L + q < (v.root + 1) * n ^ L =
      omega (arith, past_le n L v shallow below, number_end v, more_mul v.root (n ^ L)) in
      let same : v.root ≡ r = sym (div-eq_of_lt-le (n ^ L) (omega arith) over) ∙ quotient (n ^ L) r q (r * n ^ L + q) refl small in
      let scaled : v.root * n ^ L ≡ r * n ^ L = ap (λ (k : ℕ). k * n ^ L) same in
      record { root = same; ancestor = div-eq_of_lt-le (span n L v.level) (omega arith) (omega (arith, number_end v)) }

  -- ---- a list with one leaf more
  once_head : (v : Leaf) (vs : List Leaf) (r q : ℕ) → Holds n L v r q → ((j : ℕ) → j < length vs → Holds n L (nth vs j) r q → ⊥)
      → Once (v ∷ vs) r q
  once_head v vs r q h others = record { which = 0; below = omega arith; holds = h; only = only }
    where
      only : (j : ℕ) → j < suc (length vs) → Holds n L (nth (v ∷ vs) j) r q → j ≡ 0
      only zero inside held = refl
      only (suc j) inside held = absurd (others j (omega arith) held)

  once_tail : (v : Leaf) (vs : List Leaf) (r q : ℕ) → (Holds n L v r q → ⊥) → Once vs r q → Once (v ∷ vs) r q
  once_tail v vs r q other o = record { which = suc o.which; below = omega (arith, o.below); holds = o.holds; only = only }
    where
      only : (j : ℕ) → j < suc (length vs) → Holds n L (nth (v ∷ vs) j) r q → j ≡ suc o.which
      only zero inside held = absurd (other held)
      only (suc j) inside held = ap suc (o.only j (omega arith) held)

  module _ (positive : 0 < n) (K r q : ℕ) (small : q < n ^ L) where
    -- no leaf of a list from c on holds a cell before c
    none_before : (c : Spot) (vs : List Leaf) → Covers n L c vs K → r * n ^ L + q < number c
        → (j : ℕ) → j < length vs → Holds n L (nth vs j) r q → ⊥
    unfolding Covers
    none_before c [] f before j inside held = absurd (omega arith)
    none_before c (v ∷ vs) f before zero inside held = omega (arith, ap number f.2, holds_from v r q held)
    none_before c (v ∷ vs) f before (suc j) inside held =
        none_before (end_of n L v) vs f.4 (omega (arith, ap number f.2, number_end v)) j (omega arith) held

    once_from : (c : Spot) (vs : List Leaf) → Covers n L c vs K → r < K → number c ≤ r * n ^ L + q → Once vs r q
    unfolding Covers
    once_from c [] f root after =
        let next : r + 1 ≤ K = omega arith in
        absurd (omega (arith, ap number f, mul-le-mul_right (n ^ L) next, more_mul r (n ^ L)))
    once_from c (v ∷ vs) f root after = by (dec_lt (r * n ^ L + q) (number (end_of n L v))) (once_from (end_of n L v) vs f.4 root)
      where
        by : Dec (r * n ^ L + q < number (end_of n L v)) → (number (end_of n L v) ≤ r * n ^ L + q → Once vs r q) → Once (v ∷ vs) r q
        by (yes before) later =
            once_head v vs r q (between_holds v r q f.0 f.1 small (omega (arith, ap number f.2)) before)
            (none_before (end_of n L v) vs f.4 before)
        by (no beyond) later = once_tail v vs r q (λ h. omega (arith, holds_to positive v r q h)) (later (omega arith))

  pub once_each : 0 < n → (K : ℕ) (vs : List Leaf) → Valid n L K vs → OnceEach K vs
  once_each positive K vs f r q root small = once_from positive K r q small (spot_at 0 0) vs f root (omega arith)
