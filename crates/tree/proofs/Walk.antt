-- The loops of the code, one level a turn: down from the root by the digits of a position, highest first, and up to it, lowest
-- first. b bits are a digit. Assumes nothing.
use Rattle.std.proofs.Common.{◌≡◌, ℕ, suc, ◌+◌, ◌-◌, ◌*◌, ◌/◌, ◌%◌, ◌^◌, ◌<◌, ◌≤◌, sym, refl, ap, ◌∙◌, ap₂, le_refl, mul-le-mul_right, mod-eq_of_lt, add-sub_of_le, mul-zero, mul-suc, mul-add, div-one, add-one, arith, pow_pos, pow_mono, pow-add, shl_exact, shr-shr}
use Rattle.tree.specs.Shape.{Shape}
use Rattle.tree.specs.Words.{element_at, position_at, position, first}
use Rattle.tree.specs.Laws.{Sound, Lawful}
use Rattle.tree.proofs.Digits.{power_bits}
use Rattle.tree.proofs.RoundTrip.{position_lt}
use Rattle.tree.proofs.Descent.{of_first}

module _ {E : Type 0} (S : Shape E) (b : ℕ) (binary : S.children ≡ 2 ^ b) where
  -- ---- down: with one level fewer left, the digit below is appended
  pub at_start : (p k : ℕ) → element_at S 0 (p / 2 ^ (b * k)) ≡ S.root
  unfolding element_at
  at_start p k = refl

  pub at_walk : (p k left : ℕ) → element_at S (suc k) (p / 2 ^ (b * left)) ≡ S.child (element_at S k (p / 2 ^ (b * suc left))) (p / 2 ^ (b * left) % 2 ^ b)
  unfolding element_at
  at_walk p k left =
      let q = p / 2 ^ (b * left) in
      let next : q / 2 ^ b ≡ p / 2 ^ (b * suc left) =
      shr-shr p (b * left) b ∙ ap (λ (m : ℕ). p / 2 ^ m) (sym (mul-suc b left)) in
      ap₂ (λ (m n : ℕ). S.child (element_at S k (q / m)) (q % n)) binary binary ∙ ap (λ (m : ℕ). S.child (element_at S k m) (q % 2 ^ b)) next

  pub at_end : (p l : ℕ) → element_at S l (p / 2 ^ (b * 0)) ≡ element_at S l p
  at_end p l = ap (element_at S l) (ap (λ (m : ℕ). p / 2 ^ m) (mul-zero b) ∙ div-one p)

  -- ---- up: the digits passed and those still above
  pub position_start : (l : ℕ) (e : E) → position_at S l e ≡ 0 + 2 ^ (b * 0) * position_at S l e
  position_start l e =
      let one : 2 ^ (b * 0) ≡ 1 = ap (λ (m : ℕ). 2 ^ m) (mul-zero b) in
      omega (arith, ap (λ (m : ℕ). m * position_at S l e) one)

  pub position_walk : (sum i l : ℕ) (e : E)
      → sum + 2 ^ (b * i) * position_at S (suc l) e ≡ sum + S.number e * 2 ^ (b * i) + 2 ^ (b * suc i) * position_at S l (S.parent e)
  unfolding position_at
  position_walk sum i l e =
      let up = position_at S l (S.parent e) in
      let more : 2 ^ (b * suc i) ≡ 2 ^ (b * i) * 2 ^ b = ap (λ (m : ℕ). 2 ^ m) (mul-suc b i) ∙ pow-add 2 (b * i) b in
      ap (λ (n : ℕ). sum + 2 ^ (b * i) * (n * up + S.number e)) binary
      ∙ omega (arith, ap (λ (m : ℕ). m * up) more)

  pub position_end : (sum i : ℕ) (e : E) → sum + 2 ^ (b * i) * position_at S 0 e ≡ sum
  unfolding position_at
  position_end sum i e = omega arith

-- a digit shifted to its place, where it stays below 64 bits and below the next place
pub digit_shifted : (b d i : ℕ) → d < 2 ^ b → b * suc i ≤ 64 → d * 2 ^ (b * i) % 2 ^ 64 ≡ d * 2 ^ (b * i)
digit_shifted b d i small fits = mod-eq_of_lt (omega (arith, digit_below b d i small, pow_mono {i = b * suc i} {j = 64} fits, pow_pos (b * i)))
  where
    digit_below : (b d i : ℕ) → d < 2 ^ b → d * 2 ^ (b * i) + 2 ^ (b * i) ≤ 2 ^ (b * suc i)
    digit_below b d i small =
        let whole : suc d * 2 ^ (b * i) ≤ 2 ^ b * 2 ^ (b * i) = mul-le-mul_right (2 ^ (b * i)) small in
        let more : 2 ^ (b * suc i) ≡ 2 ^ (b * i) * 2 ^ b = ap (λ (m : ℕ). 2 ^ m) (mul-suc b i) ∙ pow-add 2 (b * i) b in
        omega arith

pub sum_below : (b sum d i : ℕ) → sum < 2 ^ (b * i) → d < 2 ^ b → sum + d * 2 ^ (b * i) < 2 ^ (b * suc i)
sum_below b sum d i low small =
    let whole : suc d * 2 ^ (b * i) ≤ 2 ^ b * 2 ^ (b * i) = mul-le-mul_right (2 ^ (b * i)) small in
    let more : 2 ^ (b * suc i) ≡ 2 ^ (b * i) * 2 ^ b = ap (λ (m : ℕ). 2 ^ m) (mul-suc b i) ∙ pow-add 2 (b * i) b in
    omega arith

-- ---- the same as the loops meet it
module _ {E : Type 0} (S : Shape E) (b : ℕ) (binary : S.children ≡ 2 ^ b) (l : ℕ) where
  -- down, with `left` levels to go
  pub reached_start : (p : ℕ) → element_at S (l - l) (p / 2 ^ (b * l)) ≡ S.root
  reached_start p =
      let none : l - l ≡ 0 = omega arith in
      ap (λ (k : ℕ). element_at S k (p / 2 ^ (b * l))) none ∙ at_start S b binary p l

  pub reached_step : (p left : ℕ) (e : E) → 0 < left → left ≤ l → element_at S (l - left) (p / 2 ^ (b * left)) ≡ e
      → element_at S (l - (left - 1)) (p / 2 ^ (b * (left - 1))) ≡ S.child e (p / 2 ^ (b * (left - 1)) % 2 ^ b)
  reached_step p left e some fewer here =
      let more : l - (left - 1) ≡ suc (l - left) = omega arith in
      let again : suc (left - 1) ≡ left = omega arith in
      ap (λ (k : ℕ). element_at S k (p / 2 ^ (b * (left - 1)))) more
      ∙ at_walk S b binary p (l - left) (left - 1)
      ∙ ap (λ (k : ℕ). S.child (element_at S (l - left) (p / 2 ^ (b * k))) (p / 2 ^ (b * (left - 1)) % 2 ^ b)) again
      ∙ ap (λ (f : E). S.child f (p / 2 ^ (b * (left - 1)) % 2 ^ b)) here

  pub reached_end : (p left : ℕ) (e : E) → left ≤ 0 → element_at S (l - left) (p / 2 ^ (b * left)) ≡ e → element_at S l p ≡ e
  reached_end p left e done here =
      let none : 0 ≡ left = omega arith in
      let all : l ≡ l - left = omega arith in
      sym (at_end S b binary p l) ∙ ap₂ (λ (k m : ℕ). element_at S k (p / 2 ^ (b * m))) all none ∙ here

  -- up, with i levels passed and their digits summed; P is the position looked for
  pub climbed_start : (e : E) → position_at S l e ≡ 0 + 2 ^ (b * 0) * position_at S (l - 0) e
  climbed_start e =
      let all : l ≡ l - 0 = omega arith in
      position_start S b binary l e ∙ ap (λ (k : ℕ). 0 + 2 ^ (b * 0) * position_at S k e) all

  pub climbed_step : (P sum i : ℕ) (e : E) → i < l → P ≡ sum + 2 ^ (b * i) * position_at S (l - i) e
      → P ≡ sum + S.number e * 2 ^ (b * i) + 2 ^ (b * (i + 1)) * position_at S (l - (i + 1)) (S.parent e)
  climbed_step P sum i e more here =
      let again : l - i ≡ suc (l - (i + 1)) = omega arith in
      here
      ∙ ap (λ (k : ℕ). sum + 2 ^ (b * i) * position_at S k e) again
      ∙ position_walk S b binary sum i (l - (i + 1)) e
      ∙ ap (λ (k : ℕ). sum + S.number e * 2 ^ (b * i) + 2 ^ (b * k) * position_at S (l - (i + 1)) (S.parent e)) (sym (add-one i))

  pub climbed_end : (P sum i : ℕ) (e : E) → l ≤ i → P ≡ sum + 2 ^ (b * i) * position_at S (l - i) e → P ≡ sum
  climbed_end P sum i e done here =
      let none : l - i ≡ 0 = omega arith in
      here ∙ ap (λ (k : ℕ). sum + 2 ^ (b * i) * position_at S k e) none ∙ position_end S b binary sum i e

-- ---- the position of the first descendant of the highest level, by a shift
module _ {E : Type 0} (S : Shape E) (W : Lawful S) (b : ℕ) (binary : S.children ≡ 2 ^ b) (narrow : b * S.highest ≤ 64) where
  power : (l : ℕ) → S.children ^ l ≡ 2 ^ (b * l)
  power l = ap (λ (n : ℕ). n ^ l) binary ∙ power_bits b l

  pub start_shifted : (e : E) → Sound S e → position S e * 2 ^ (b * (S.highest - S.level e)) % 2 ^ 64 ≡ position S (first S e S.highest)
  start_shifted e sound =
      let l = S.level e in
      let k = S.highest - l in
      let below : position S e < 2 ^ (b * l) = rw (sym (power l)) (position_lt S W e sound) in
      let whole : b * l + b * k ≡ b * S.highest = sym (mul-add b l k) ∙ ap (λ (m : ℕ). b * m) (add-sub_of_le (W.shallow e sound)) in
      shl_exact (b * l) (b * k) 64 below (omega arith)
      ∙ sym (of_first S W e S.highest sound (W.shallow e sound) (le_refl S.highest) ∙ ap (λ (m : ℕ). position S e * m) (power k))
