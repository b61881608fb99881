-- One step down fills one place of each tuple, that of the child's level: the bit of each coordinate there is the step's and the type
-- is the child's, where the parent has zeros; the places above are the parent's and those below are zeros in both. So the number
-- laid over them grows by the digits of that one place. Assumes nothing.
use mathlib.Core.Path.{◌≡◌, refl, ap, ap₂, ◌∙◌, sym}
use mathlib.Core.Bool.{false}
use mathlib.Core.List.{List, [], ◌∷◌}
use Prim.Native.Nat.{ℕ, zero, suc, ◌+◌, ◌-◌, ◌*◌, ◌/◌, ◌%◌, ◌^◌, ◌≤◌, ◌<◌}
use native.Mathlib.Nat.{pow-suc, mul-mod_left, mul-div_cancel, eq_of_mul-eq-mul_right, zero-mul}
use native.Mathlib.Decide.{dec_lt}
use native.Mathlib.Omega.{arith}
use lib.ListN.{length}
use lib.Pow.{pow_pos, pow-add, shr-shr}
use borrow.Author.Tests.{le-leb, lt-leb}
use Rattle.tree.specs.Shape.{Shape}
use Rattle.tree.specs.Anchors.{side, off_grid}
use Rattle.tree.specs.Laws.{Sound, Lawful}
use Rattle.tree.specs.Ancestors.{up}
use Rattle.tree.proofs.Digits.{power_bits}
use Rattle.tree.proofs.Anchor.{side_pos, grid_units, units_child, child_rounded, child_bit}
use Rattle.index.specs.Index.{bit, ancestor, types, group, overlaid}

-- the tuple a with s put into its empty place j, of the places below L
pub record Grown (L j s : ℕ) (a grown : ℕ → ℕ) : Type 0 where
  pub empty : a j ≡ 0
  pub here : grown j ≡ s
  pub under : (k : ℕ) → k < j → grown k ≡ a k
  pub over : (k : ℕ) → j < k → k < L → grown k ≡ a k

-- ---- the bits of a coordinate
-- a multiple of 2^k has zeros at the places below k
bit_under : (u k j : ℕ) → j < k → bit j (u * 2 ^ k) ≡ 0
bit_under u k j below =
    let d = k - suc j in
    let more : k ≡ d + suc j = omega arith in
    let split : u * 2 ^ k ≡ u * 2 ^ d * 2 * 2 ^ j =
    ap (λ (m : ℕ). u * 2 ^ m) more ∙ ap (λ (m : ℕ). u * m) (pow-add 2 d (suc j)) ∙ rw pow-suc (omega arith) in
    ap (λ (x : ℕ). x / 2 ^ j % 2) split
    ∙ ap (λ (x : ℕ). x % 2) (mul-div_cancel (u * 2 ^ d * 2) (pow_pos j))
    ∙ mul-mod_left (u * 2 ^ d) 2

-- the places from k on are those of the quotient by 2^k
bit_over : (x y k j : ℕ) → k ≤ j → x / 2 ^ k ≡ y / 2 ^ k → bit j x ≡ bit j y
bit_over x y k j above same =
    let more : j ≡ k + (j - k) = omega arith in
    ap (λ (m : ℕ). bit m x) more
    ∙ ap (λ (m : ℕ). m % 2) (sym (shr-shr x k (j - k)) ∙ ap (λ (m : ℕ). m / 2 ^ (j - k)) same ∙ shr-shr y k (j - k))
    ∙ ap (λ (m : ℕ). bit m y) (sym more)

module _ (L l x i : ℕ) (room : l < L) (small : i < 2) (on : off_grid L l x ≡ false) where
  -- the coordinate and its child's, in sides of their levels
  units : x ≡ x / side L l * side L l
  units = sym (grid_units L l x on)

  units_step : x + i * side L (suc l) ≡ (2 * (x / side L l) + i) * side L (suc l)
  units_step = ap (λ (m : ℕ). m + i * side L (suc l)) units ∙ units_child L l (x / side L l) i room

  zeros : (j : ℕ) → j < L - l → bit j x ≡ 0
  zeros j below = ap (bit j) units ∙ bit_under (x / side L l) (L - l) j below

  quotient_step : (x + i * side L (suc l)) / side L l ≡ x / side L l
  quotient_step = eq_of_mul-eq-mul_right (side L l) (side_pos L l) _ _ (child_rounded L l x i room small on ∙ units)

  pub bit_grown : Grown L (L - suc l) i (λ j. bit j x) (λ j. bit j (x + i * side L (suc l)))
  bit_grown =
      record {
        empty = zeros (L - suc l) (omega arith);
        here = child_bit L l x i room small on;
        under = λ k below. ap (bit k) units_step ∙ bit_under _ (L - suc l) k below ∙ sym (zeros k (omega arith));
        over = λ k above inside. bit_over _ x (L - l) k (omega arith) quotient_step;
      }

-- ---- the types of the ancestors
module _ {E : Type 0} (S : Shape E) (W : Lawful S) (kind : E → ℕ) where
  up_parent : (k : ℕ) (e : E) → up S (suc k) e ≡ up S k (S.parent e)
  unfolding up
  up_parent zero e = refl
  up_parent (suc k) e = ap S.parent (up_parent k e)

  -- an ancestor of the parent
  ancestor_parent : (l : ℕ) (e : E) → 0 < S.level e → l < S.level e → ancestor S l e ≡ ancestor S l (S.parent e)
  ancestor_parent l e deep above =
      let more : S.level e - l ≡ suc (S.level (S.parent e) - l) = omega (arith, W.parent_level e deep) in
      ap (λ (k : ℕ). up S k e) more ∙ up_parent (S.level (S.parent e) - l) e

  types_deep : (e : E) (j : ℕ) → S.level e < S.highest - j → types S kind e j ≡ 0
  unfolding types
  types_deep e j deep = simp (lt-leb (S.highest - j) (S.level e) deep)

  types_at : (e : E) (j : ℕ) → S.highest - j ≤ S.level e → types S kind e j ≡ kind (ancestor S (S.highest - j) e)
  unfolding types
  types_at e j above = simp (le-leb (S.highest - j) (S.level e) above)

  module _ (e : E) (i : ℕ) (ok : Sound S e) (room : S.level e < S.highest) (small : i < S.children) where
    pub types_grown : Grown S.highest (S.highest - suc (S.level e)) (kind (S.child e i)) (types S kind e) (types S kind (S.child e i))
    unfolding up
    types_grown =
        let H = S.highest in
        let c = S.child e i in
        let level = W.child_level e i in
        let none : S.level c - (H - (H - suc (S.level e))) ≡ 0 = omega arith in
        record {
          empty = types_deep e (H - suc (S.level e)) (omega arith);
          here = types_at c (H - suc (S.level e)) (omega arith) ∙ ap (λ (k : ℕ). kind (up S k c)) none;
          under = λ k below. types_deep c k (omega arith) ∙ sym (types_deep e k (omega arith));
          over = λ k above inside.
              types_at c k (omega arith)
              ∙ ap kind (ancestor_parent (H - k) c (omega arith) (omega arith) ∙ ap (ancestor S (H - k)) (W.parent_child e i ok room small))
              ∙ sym (types_at e k (omega arith));
        }

-- ---- tuples laid over each other
-- tuples that grow at one place, and the digits that all of them get there
pub data Laid (L j : ℕ) : ℕ → List (ℕ → ℕ) → List (ℕ → ℕ) → Type 0 where
  none : Laid L j 0 [] []
  laid : {s r : ℕ} {a b : ℕ → ℕ} {ts us : List (ℕ → ℕ)} → Grown L j s a b → Laid L j r ts us
      → Laid L j (s * 2 ^ length us + r) (a ∷ ts) (b ∷ us)

laid_length : {L j s : ℕ} {ts us : List (ℕ → ℕ)} → Laid L j s ts us → length ts ≡ length us
laid_length none = refl
laid_length (laid g rest) = ap suc (laid_length rest)

group_grown : {L j s : ℕ} {ts us : List (ℕ → ℕ)} → Laid L j s ts us → Grown L j s (group ts) (group us)
unfolding group
group_grown none = record { empty = refl; here = refl; under = λ k below. refl; over = λ k above inside. refl }
group_grown (laid {a = a} {b = b} {ts = ts} {us = us} g rest) =
    let h = group_grown rest in
    let long = laid_length rest in
    record {
      empty = ap₂ (λ (m k : ℕ). m * 2 ^ length ts + k) g.empty h.empty ∙ omega arith;
      here = cc (g.here, h.here);
      under = λ k below. cc (g.under k below, h.under k below, long);
      over = λ k above inside. cc (g.over k above inside, h.over k above inside, long);
    }

module _ (L j s : ℕ) (ts us : List (ℕ → ℕ)) (long : length ts ≡ length us) (g : Grown L j s (group ts) (group us)) where
  overlaid_under : (k : ℕ) → k ≤ j → overlaid us k ≡ overlaid ts k
  unfolding overlaid
  overlaid_under zero below = refl
  overlaid_under (suc k) below = cc (g.under k below, long, overlaid_under k (omega arith))

  overlaid_over : (k : ℕ) → j < k → k ≤ L → overlaid us k ≡ overlaid ts k + s * 2 ^ (length us * j)
  unfolding overlaid
  overlaid_over zero above inside = absurd (omega arith)
  overlaid_over (suc k) above inside = decide (dec_lt j k) (overlaid_over k)
    where
      decide : Dec (j < k) → (j < k → k ≤ L → overlaid us k ≡ overlaid ts k + s * 2 ^ (length us * j))
          → group us k * 2 ^ (length us * k) + overlaid us k ≡ group ts k * 2 ^ (length ts * k) + overlaid ts k + s * 2 ^ (length us * j)
      decide (yes beyond) rest =
          let same : group us k * 2 ^ (length us * k) ≡ group ts k * 2 ^ (length ts * k) = cc (g.over k beyond inside, long) in
          omega (arith, rest beyond (omega arith))
      decide (no at) rest =
          let last : k ≡ j = omega arith in
          let filled : group us k * 2 ^ (length us * k) ≡ s * 2 ^ (length us * j) = cc g.here in
          let free : group ts k ≡ 0 = ap (group ts) last ∙ g.empty in
          let blank : group ts k * 2 ^ (length ts * k) ≡ 0 = rw free (zero-mul (2 ^ (length ts * k))) in
          omega (arith, overlaid_under k (omega arith))

pub overlaid_laid : {L j s : ℕ} {ts us : List (ℕ → ℕ)} → j < L → Laid L j s ts us
    → overlaid us L ≡ overlaid ts L + s * (2 ^ length us) ^ j
overlaid_laid {L} {j} {s} {ts} {us} inside rest =
    overlaid_over L j s ts us (laid_length rest) (group_grown rest) L inside (omega arith)
    ∙ ap (λ (m : ℕ). overlaid ts L + s * m) (sym (power_bits (length us) j))
