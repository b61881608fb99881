-- Sums of the first weights: one leaf more adds its weight, so the sums rise, and a part of the list weighs the difference of two sums.
-- Assumes nothing.
use mathlib.Core.Path.{◌≡◌, refl, ap, ◌∙◌, sym, subst}
use mathlib.Core.Bool.{Bool, true, false, cond}
use mathlib.Core.List.{List, [], ◌∷◌, ◌++◌}
use Prim.Native.Nat.{ℕ, zero, suc, ◌+◌, ◌-◌, ◌*◌, ◌≤◌, ◌<◌}
use native.Mathlib.Numerals.{add-one}
use native.Mathlib.Nat.{zero-mul, suc-mul}
use native.Mathlib.Omega.{arith}
use lib.Dec.{ltb}
use lib.ListN.{length, get_or, take, drop, replicate, take-append-drop}
use lib.Seq.{take-suc, take-add, take-take, take-length, slice}
use borrow.Author.Tests.{ltb-true, ltb-false}
use Rattle.shares.specs.Shares.{total, heaviest}
use Rattle.shares.specs.Laws.{Weighty, Heaviest}

pub total_append : (xs ys : List ℕ) → total (xs ++ ys) ≡ total xs + total ys
unfolding total
total_append [] ys = omega arith
total_append (x ∷ xs) ys = omega (arith, total_append xs ys)

pub total_none : (ws : List ℕ) → length ws ≡ 0 → total ws ≡ 0
unfolding total
total_none [] none = refl
total_none (w ∷ ws) none = absurd (omega arith)

module _ (ws : List ℕ) where
  pub total_next : (j : ℕ) → j < length ws → total (take (j + 1) ws) ≡ total (take j ws) + get_or ws j 0
  unfolding total
  total_next j inside =
      ap (λ (k : ℕ). total (take k ws)) (add-one j) ∙ ap total (take-suc ws j 0 inside) ∙ total_append (take j ws) (get_or ws j 0 ∷ [])
      ∙ omega arith

  pub total_all : total (take (length ws) ws) ≡ total ws
  total_all = ap total (take-length ws)

  -- "Share s runs from boundary s up to boundary s+1"
  pub total_slice : (f t : ℕ) → f ≤ t → total (take f ws) + total (slice f t ws) ≡ total (take t ws)
  total_slice f t rising =
      ap (λ (xs : List ℕ). total xs + total (slice f t ws)) (sym (take-take f t ws rising))
      ∙ sym (total_append (take f (take t ws)) (drop f (take t ws)))
      ∙ ap total (take-append-drop f (take t ws))

  -- a part, from f up to t, as it is lent
  pub total_part : (f t : ℕ) → f ≤ t → total (take t ws) ≡ total (take f ws) + total (take (t - f) (drop f ws))
  total_part f t rising =
      let whole : t ≡ f + (t - f) = omega arith in
      ap (λ (n : ℕ). total (take n ws)) whole
      ∙ ap total (take-add f (t - f) ws)
      ∙ total_append (take f ws) (take (t - f) (drop f ws))

  pub total_rises : (i j : ℕ) → i ≤ j → total (take i ws) ≤ total (take j ws)
  total_rises i j rising = omega (arith, total_slice i j rising)

  -- no weight is 0: each of the leaves adds at least one
  pub count_le_total : Weighty ws → (j : ℕ) → j ≤ length ws → j ≤ total (take j ws)
  count_le_total weighty zero inside = omega arith
  count_le_total weighty (suc j) inside =
      let more : total (take (suc j) ws) ≡ total (take j ws) + get_or ws j 0 =
      ap (λ (k : ℕ). total (take k ws)) (sym (add-one j)) ∙ total_next j (omega arith) in
      omega (arith, count_le_total weighty j (omega arith), weighty j (omega arith))

-- ---- the heaviest
heavier : (h w : ℕ) → (h ≤ cond (ltb h w) w h) × (w ≤ cond (ltb h w) w h)
heavier h w = by (ltb h w) refl
  where
    by : (t : Bool) → ltb h w ≡ t → (h ≤ cond t w h) × (w ≤ cond t w h)
    by true above = (omega (arith, ltb-true h w above), omega arith)
    by false below = (omega arith, ltb-false h w below)

pub weight_le_heaviest : (ws : List ℕ) (j : ℕ) → get_or ws j 0 ≤ heaviest ws
unfolding heaviest
weight_le_heaviest [] j = omega arith
weight_le_heaviest (w ∷ ws) zero = (heavier (heaviest ws) w).1
weight_le_heaviest (w ∷ ws) (suc j) = omega (arith, weight_le_heaviest ws j, (heavier (heaviest ws) w).0)

-- it is the weight of a leaf: of the first, or the heaviest of the later ones
abbrev Weighs : List ℕ → ℕ → Type 0
Weighs ws h = (j : ℕ) × ((j < length ws) × (get_or ws j 0 ≡ h))

first_weighs : (w : ℕ) (ws : List ℕ) → Weighs (w ∷ ws) w
first_weighs w ws = (0, (omega arith, refl))

only : (w : ℕ) → w ≡ cond (ltb 0 w) w 0
only w = by (ltb 0 w) refl
  where
    by : (t : Bool) → ltb 0 w ≡ t → w ≡ cond t w 0
    by true above = refl
    by false below = omega (arith, ltb-false 0 w below)

one_weighs : (ws : List ℕ) → 0 < length ws → Weighs ws (heaviest ws)
unfolding heaviest
one_weighs [] some = absurd (omega arith)
one_weighs (w ∷ []) some = subst (Weighs (w ∷ [])) (only w) (first_weighs w [])
one_weighs (w ∷ (x ∷ ws)) some = by (ltb (heaviest (x ∷ ws)) w) (one_weighs (x ∷ ws) (omega arith))
  where
    by : (t : Bool) → Weighs (x ∷ ws) (heaviest (x ∷ ws)) → Weighs (w ∷ (x ∷ ws)) (cond t w (heaviest (x ∷ ws)))
    by true later = first_weighs w (x ∷ ws)
    by false (j, (inside, weighs)) = (suc j, (omega arith, weighs))

pub heaviest_is : (ws : List ℕ) → 0 < length ws → Heaviest ws (heaviest ws)
heaviest_is ws some = record { one = one_weighs ws some; none_heavier = λ j inside. weight_le_heaviest ws j }

-- ---- equal weights
pub total_equal : (n j w : ℕ) → j ≤ n → total (take j (replicate n w)) ≡ j * w
unfolding total
total_equal n zero w inside = sym (zero-mul w)
total_equal zero (suc j) w inside = absurd (omega arith)
total_equal (suc n) (suc j) w inside = ap (λ (k : ℕ). w + k) (total_equal n j w (omega arith)) ∙ omega (arith, suc-mul j w)
