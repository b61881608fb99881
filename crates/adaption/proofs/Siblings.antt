-- In a valid list, leaves of one level from a position divisible by n on are a family: each starts where the one before it ends, within
-- the root, so its position is the next. Assumes nothing.
use mathlib.Core.Path.{◌≡◌, ap, ap₂, ◌∙◌, sym}
use mathlib.Core.List.{List}
use Prim.Native.Nat.{ℕ, zero, suc, ◌+◌, ◌-◌, ◌*◌, ◌/◌, ◌%◌, ◌^◌, ◌≤◌, ◌<◌}
use native.Mathlib.Nat.{add-zero, mul_comm, mul-lt-mul_of_pos_right, mul-le-mul_right, lt_of_mul-lt-mul_right, mul-div_cancel, div-add-mod', pow-suc}
use native.Mathlib.Omega.{arith}
use lib.ListN.{length}
use Rattle.leaves.specs.Leaves.{Leaf, nth, leaf, Spot, spot_at, span, start_of, end_of, Covers}
use Rattle.leaves.proofs.Span.{more_mul, power_pos, fill, end_within}
use Rattle.leaves.proofs.Entries.{level_at, position_at_lem, follows}
use Rattle.adaption.specs.Adaption.{child, parent}

-- a multiple of n below n^l leaves room for n
whole_family : (n l p : ℕ) → 0 < l → p < n ^ l → p % n ≡ 0 → p + n ≤ n ^ l
whole_family n zero p deep below first = absurd (omega arith)
whole_family n (suc l) p deep below first =
    let whole = div-add-mod' p n in
    let power = pow-suc n l in
    let fewer : p / n < n ^ l = lt_of_mul-lt-mul_right n (omega arith) in
    let next : p / n + 1 ≤ n ^ l = omega arith in
    omega (arith, mul-le-mul_right n next, more_mul (p / n) n)

module _ (n L : ℕ) (positive : 0 < n) where
  -- the leaf v of level l that starts where the leaf before it ends, if that is within the root, has the next position
  next_position : (r l q : ℕ) (v : Leaf) → l ≤ L → q + 1 < n ^ l → v.level ≡ l → start_of n L v ≡ end_of n L (leaf r l q) → v ≡ leaf r l (q + 1)
  next_position r l q v shallow below level starts =
      let some = power_pos n (L - l) positive in
      let short = mul-lt-mul_of_pos_right below some in
      let spot : start_of n L v ≡ spot_at r ((q + 1) * span n L l) =
      starts ∙ end_within n L (leaf r l q) (λ e. omega (arith, short, fill n L l shallow)) in
      let scaled : v.position * span n L l ≡ (q + 1) * span n L l =
      ap (λ (k : ℕ). v.position * span n L k) (sym level) ∙ ap (λ (p : Spot). p.cell) spot in
      let position : v.position ≡ q + 1 =
      sym (mul-div_cancel v.position some) ∙ ap (λ (k : ℕ). k / span n L l) scaled ∙ mul-div_cancel (q + 1) some in
      ap (λ (k : ℕ). leaf k v.level v.position) (ap (λ (p : Spot). p.root) spot) ∙ ap₂ (leaf r) level position

  module _ (K : ℕ) (c : Spot) (vs : List Leaf) (f : Covers n L c vs K)
      (j : ℕ) (inside : j + n ≤ length vs) (deep : 0 < (nth vs j).level) (first : (nth vs j).position % n ≡ 0)
      (alike : (t : ℕ) → t < n → (nth vs (j + t)).level ≡ (nth vs j).level) where
    in_row : (t : ℕ) → t < n → nth vs (j + t) ≡ leaf (nth vs j).root (nth vs j).level ((nth vs j).position + t)
    in_row zero below =
        ap (nth vs) (add-zero j) ∙ ap (leaf (nth vs j).root (nth vs j).level) (sym (add-zero (nth vs j).position))
    in_row (suc t) below =
        let within : suc (j + t) < length vs = omega arith in
        let here : j < length vs = omega arith in
        let number : j + suc t ≡ suc (j + t) = omega arith in
        let up : (nth vs j).position + suc t ≡ (nth vs j).position + t + 1 = omega arith in
        let room = whole_family n (nth vs j).level (nth vs j).position deep (position_at_lem n L K c vs j f here) first in
        ap (nth vs) number
        ∙ next_position (nth vs j).root (nth vs j).level ((nth vs j).position + t) (nth vs (suc (j + t))) (level_at n L K c vs j f here) (omega arith)
        (ap (λ (k : ℕ). (nth vs k).level) (sym number) ∙ alike (suc t) below)
        (follows n L K c vs (j + t) f within ∙ ap (end_of n L) (in_row t (omega arith)))
        ∙ ap (leaf (nth vs j).root (nth vs j).level) (sym up)

    pub are_siblings : (t : ℕ) → t < n → nth vs (j + t) ≡ child n (parent n (nth vs j)) t
    are_siblings t below =
        let level : (nth vs j).level ≡ (nth vs j).level - 1 + 1 = omega arith in
        let position : (nth vs j).position + t ≡ n * ((nth vs j).position / n) + t =
        omega (arith, div-add-mod' (nth vs j).position n, mul_comm n ((nth vs j).position / n), first) in
        in_row t below ∙ ap₂ (leaf (nth vs j).root) level position
