-- Shares are fair: P times the weight before boundary s is at most s times the whole weight, and one leaf more would pass it, so each
-- boundary is less than the heaviest weight short of its part. Assumes nothing.
use mathlib.Core.Path.{◌≡◌, sym, ◌∙◌, ap}
use mathlib.Core.Bool.{Bool}
use mathlib.Core.List.{List}
use Prim.Native.Nat.{ℕ, suc, ◌+◌, ◌-◌, ◌*◌, ◌≤◌, ◌<◌}
use native.Mathlib.Numerals.{add-one}
use native.Mathlib.Nat.{mul-add, mul-le-mul_left, mul-le-mul_right, one-le-mul, le-mul_of_pos_right}
use native.Mathlib.Decide.{dec_lt, le_ind}
use native.Mathlib.Omega.{arith}
use lib.Dec.{leb}
use lib.ListN.{length, take, get_or}
use borrow.Author.Tests.{leb-true, le-leb}
use Rattle.leaves.proofs.Span.{more_mul}
use Rattle.shares.specs.Shares.{total, largest, boundary, weight, heaviest}
use Rattle.shares.specs.Laws.{InShare, OneShare, Fair, Weighty}
use Rattle.shares.proofs.Largest.{Largest, largest_of, largest_is}
use Rattle.shares.proofs.Sums.{total_next, total_all, total_slice, count_le_total, weight_le_heaviest}

module _ (P : ℕ) (ws : List ℕ) where
  -- P times the first j weights are within s times the whole
  abbrev fits : ℕ → ℕ → Bool
  fits s j = leb (P * total (take j ws)) (s * total ws)

  pub boundary_largest : (s : ℕ) → Largest (length ws) (fits s) (boundary P ws s)
  unfolding total
  boundary_largest s = largest_of (fits s) (length ws) 0 (omega arith) (le-leb (P * 0) (s * total ws) (omega arith))

  pub boundary_under : (s : ℕ) → P * total (take (boundary P ws s) ws) ≤ s * total ws
  boundary_under s = leb-true _ _ (boundary_largest s).passes

  pub boundary_rising : (s : ℕ) → boundary P ws s ≤ boundary P ws (s + 1)
  boundary_rising s =
      let b = boundary P ws s in
      (boundary_largest (s + 1)).none_above b (boundary_largest s).within
      (le-leb (P * total (take b ws)) ((s + 1) * total ws) (omega (arith, boundary_under s, more_mul s (total ws))))

  pub boundary_monotone : (s t : ℕ) → s ≤ t → boundary P ws s ≤ boundary P ws t
  boundary_monotone s t = le_ind (λ (t : ℕ). boundary P ws s ≤ boundary P ws t) (omega arith) step t
    where
      step : (t : ℕ) → s ≤ t → boundary P ws s ≤ boundary P ws t → boundary P ws s ≤ boundary P ws (suc t)
      step t above h = rw (sym (add-one t)) (omega (arith, boundary_rising t))

  pub boundary_all : boundary P ws P ≡ length ws
  boundary_all =
      largest_is (fits P) (length ws) (length ws)
      record {
        within = omega arith;
        passes = le-leb _ _ (mul-le-mul_left P (omega (arith, total_all ws)));
        none_above = λ i inside _. inside;
      }

  module _ (some_share : 0 < P) (weighty : Weighty ws) (some_leaf : 0 < length ws) where
    pub boundary_none : boundary P ws 0 ≡ 0
    unfolding total
    boundary_none =
        let b = boundary P ws 0 in
        let least = count_le_total ws weighty b (boundary_largest 0).within in
        omega (arith, boundary_under 0, mul-le-mul_left P least, le-mul_of_pos_right b some_share)

    -- ---- less than the heaviest weight short: one leaf more passes the part, and with no leaf left the part is no more than all
    next_over : (s : ℕ) → boundary P ws s < length ws → s * total ws < P * total (take (boundary P ws s + 1) ws)
    next_over s before =
        let b = boundary P ws s in
        let too_many : P * total (take (b + 1) ws) ≤ s * total ws → ⊥ =
        λ h. omega (arith, (boundary_largest s).none_above (b + 1) (omega arith) (le-leb _ _ h)) in
        omega arith

    some_weight : 0 < P * heaviest ws
    some_weight = one-le-mul some_share (omega (arith, weighty 0 some_leaf, weight_le_heaviest ws 0))

    boundary_over : (s : ℕ) → s ≤ P → s * total ws < P * total (take (boundary P ws s) ws) + P * heaviest ws
    boundary_over s inside = by (dec_lt (boundary P ws s) (length ws))
      where
        by : Dec (boundary P ws s < length ws) → s * total ws < P * total (take (boundary P ws s) ws) + P * heaviest ws
        by (yes before) =
            let b = boundary P ws s in
            let more = ap (λ (w : ℕ). P * w) (total_next ws b before) ∙ mul-add P (total (take b ws)) (get_or ws b 0) in
            omega (arith, next_over s before, mul-le-mul_left P (weight_le_heaviest ws b))
        by (no after) =
            let all : boundary P ws s ≡ length ws = omega (arith, (boundary_largest s).within) in
            let whole = ap (λ (j : ℕ). P * total (take j ws)) all ∙ ap (λ (w : ℕ). P * w) (total_all ws) in
            omega (arith, mul-le-mul_right (total ws) inside, some_weight)

    -- ---- a share weighs the difference of two sums
    weight_between : (s : ℕ)
        → P * total (take (boundary P ws s) ws) + P * weight P ws s ≡ P * total (take (boundary P ws (s + 1)) ws)
    weight_between s =
        sym (mul-add P _ _) ∙ ap (λ (w : ℕ). P * w) (total_slice ws (boundary P ws s) (boundary P ws (s + 1)) (boundary_rising s))

    pub not_far_above : (s : ℕ) → s < P → P * weight P ws s < total ws + P * heaviest ws
    not_far_above s inside =
        omega (arith, weight_between s, boundary_over s (omega arith), boundary_under (s + 1), more_mul s (total ws))

    pub not_far_below : (s : ℕ) → s < P → total ws < P * weight P ws s + P * heaviest ws
    not_far_below s inside =
        omega (arith, weight_between s, boundary_under s, boundary_over (s + 1) (omega arith), more_mul s (total ws))

    -- ---- each leaf lies in the last share that does not start after it
    module _ (j : ℕ) (inside : j < length ws) where
      abbrev started : ℕ → Bool
      started s = leb (boundary P ws s) j

      abbrev last : ℕ
      last = largest (P - 1) started

      last_largest : Largest (P - 1) started last
      last_largest =
          largest_of started (P - 1) 0 (omega arith) (le-leb (boundary P ws 0) j (omega (arith, boundary_none)))

      last_inside : InShare P ws last j
      last_inside = record { from = leb-true (boundary P ws last) j last_largest.passes; to = by (dec_lt (last + 1) P) }
        where
          by : Dec (last + 1 < P) → j < boundary P ws (last + 1)
          by (yes more) =
              let later : boundary P ws (last + 1) ≤ j → ⊥ =
              λ h. omega (arith, last_largest.none_above (last + 1) (omega arith) (le-leb _ _ h)) in
              omega arith
          by (no none) =
              let end : last + 1 ≡ P = omega (arith, last_largest.within) in
              rw (end, boundary_all) inside

      pub one_share : OneShare P ws j
      one_share =
          record {
            which = last;
            below = omega (arith, last_largest.within);
            holds = last_inside;
            only = only;
          }
        where
          only : (s : ℕ) → s < P → InShare P ws s j → s ≡ last
          only s of_them i =
              let first : s ≤ last = last_largest.none_above s (omega arith) (le-leb _ _ i.from) in
              let not_earlier : s + 1 ≤ last → ⊥ =
              λ earlier. omega (arith, boundary_monotone (s + 1) last earlier, i.to, last_inside.from) in
              omega arith

    pub fair : Fair P ws
    fair =
        record {
          largest = λ s. record { within = (boundary_largest s).within; under = boundary_under s; largest = λ i inside under. (boundary_largest s).none_above i inside (le-leb _ _ under) };
          from_none = boundary_none;
          to_all = boundary_all;
          rising = boundary_rising;
          one_share = one_share;
          not_far_above = not_far_above;
          not_far_below = not_far_below;
        }
