-- Where a run ends, as the code's shifts find it: a spot that a leaf of level l may start at is so many leaves of the level into its root.
-- Assumes nothing.
use Rattle.std.proofs.Math.Bool.{and-false}
use Rattle.tree.proofs.Digits.{shifted_power}
use mathlib.Core.Path.{◌≡◌, refl, ap, ap₂, ◌∙◌, sym}
use mathlib.Core.Bool.{true, false, true≢false}
use Prim.Native.Nat.{ℕ, zero, suc, ◌+◌, ◌-◌, ◌*◌, ◌/◌, ◌%◌, ◌^◌, ◌≤◌, ◌<◌}
use native.Mathlib.Nat.{div-add-mod', div-lt_iff_lt-mul, div-eq_of_lt, mod-eq_of_lt, mod-lt, mul-le-mul_right, one-mul}
use native.Mathlib.Decide.{ℕ_discrete}
use native.Mathlib.Omega.{arith}
use lib.Dec.{ltb}
use lib.Pow.{pow_pos}
use borrow.Author.Tests.{ne_eqb}
use Rattle.tree.proofs.Digits.{power_bits}
use Rattle.paper.specs.Outcome.{rows}
use Rattle.leaves.specs.Leaves.{leaf, Spot, spot_at, span}
use Rattle.leaves.proofs.Span.{power_pos, fill}
use Rattle.leaves.proofs.Shift.{bits_le, bits_left, shifted}
use Rattle.format.specs.Reading.{upto, fits, leaves_from, end_from}
use Rattle.format.proofs.Units.{moved, after_moved, leaves_moved, fits_moved}

module _ (n L l K : ℕ) (positive : 0 < n) (shallow : l ≤ L) (c : Spot) where
  -- a leaf can't start at a cell that is not divisible by what it holds
  pub fits_not : (k : ℕ) → (k ≡ 0 → ⊥) → (c.cell % span n L l ≡ 0 → ⊥) → fits n L K c l k ≡ false
  unfolding fits
  fits_not zero some within = absurd (some refl)
  fits_not (suc k) some within = simp (ne_eqb (c.cell % span n L l) 0 within) (and-false (ltb c.root K))

  pub fits_whole : (k : ℕ) → (k ≡ 0 → ⊥) → fits n L K c l k ≡ true → c.cell % span n L l ≡ 0
  fits_whole k some fit = by (ℕ_discrete (c.cell % span n L l) 0)
    where
      by : Dec (c.cell % span n L l ≡ 0) → c.cell % span n L l ≡ 0
      by (yes whole) = whole
      by (no within) = absurd (true≢false (sym fit ∙ fits_not k some within))

  module _ (proper : c.cell < n ^ L) (whole : c.cell % span n L l ≡ 0) where
    -- so many leaves of the level into its root
    pub units : ℕ
    units = c.cell / span n L l

    pub units_below : c.cell / span n L l < n ^ l
    units_below = (div-lt_iff_lt-mul (power_pos n (L - l) positive)).1 (omega (arith, fill n L l shallow, proper))

    pub is_moved : moved n L l positive shallow c.root (c.cell / span n L l) ≡ c
    is_moved =
        let same : c.cell / span n L l * span n L l ≡ c.cell = omega (arith, div-add-mod' c.cell (span n L l)) in
        let root : c.root + c.cell / span n L l / n ^ l ≡ c.root = omega (arith, div-eq_of_lt units_below) in
        ap₂ spot_at root (ap (λ (q : ℕ). q * span n L l) (mod-eq_of_lt units_below) ∙ same)

    pub after_is : (k : ℕ) → end_from n L c l k ≡ moved n L l positive shallow c.root (c.cell / span n L l + k)
    after_is k = ap (λ (d : Spot). end_from n L d l k) (sym is_moved) ∙ after_moved n L l positive shallow c.root (c.cell / span n L l) k

    pub leaves_are : (k : ℕ) → leaves_from n L c l k ≡ rows (λ t. leaf (c.root + t / n ^ l) l (t % n ^ l)) (c.cell / span n L l) k
    leaves_are k = ap (λ (d : Spot). leaves_from n L d l k) (sym is_moved) ∙ leaves_moved n L l positive shallow c.root (c.cell / span n L l) k

    pub fits_is : (k : ℕ) → (k ≡ 0 → ⊥) → fits n L K c l k ≡ upto K (end_from n L c l k)
    fits_is zero some = absurd (some refl)
    fits_is (suc k) some =
        ap (λ (d : Spot). fits n L K d l (suc k)) (sym is_moved)
        ∙ fits_moved n L l positive shallow K c.root (c.cell / span n L l) k
        ∙ ap (upto K) (sym (after_is (suc k)))

-- ---- the code's shifts
pub few_levels : (b L : ℕ) → 0 < b → b * L ≤ 63 → L ≤ 63
few_levels b L some narrow = omega (arith, mul-le-mul_right L some, one-mul L)

module _ (b L l : ℕ) (narrow : b * L ≤ 63) (shallow : l ≤ L) where
  pub left_bits : b * (L - l) < 64
  left_bits = omega (arith, bits_left b L narrow l)

  pub level_bits : b * l < 64
  level_bits = omega (arith, bits_le b L narrow l shallow)

  pub span_is : 1 * 2 ^ (b * (L - l)) % 2 ^ 64 ≡ span (2 ^ b) L l
  span_is = shifted_power b (L - l) left_bits

  pub level_is : 1 * 2 ^ (b * l) % 2 ^ 64 ≡ (2 ^ b) ^ l
  level_is = shifted_power b l level_bits

  module _ (r q k : ℕ) (proper : q < (2 ^ b) ^ L) where
    pub after_spot : q % span (2 ^ b) L l ≡ 0
        → spot_at (r + (q / 2 ^ (b * (L - l)) + k) / 2 ^ (b * l)) ((q / 2 ^ (b * (L - l)) + k) % (1 * 2 ^ (b * l) % 2 ^ 64) * 2 ^ (b * (L - l)) % 2 ^ 64)
        ≡ end_from (2 ^ b) L (spot_at r q) l k
    after_spot whole =
        let u = q / 2 ^ (b * (L - l)) + k in
        let each : 2 ^ (b * l) ≡ (2 ^ b) ^ l = sym (power_bits b l) in
        let units : u ≡ q / span (2 ^ b) L l + k = ap (λ (s : ℕ). q / s + k) (sym (power_bits b (L - l))) in
        let rest : u % (1 * 2 ^ (b * l) % 2 ^ 64) * 2 ^ (b * (L - l)) % 2 ^ 64 ≡ u % (2 ^ b) ^ l * span (2 ^ b) L l =
        ap (λ (m : ℕ). u % m * 2 ^ (b * (L - l)) % 2 ^ 64) level_is
        ∙ shifted b L narrow (u % (2 ^ b) ^ l) l shallow (below (mod-lt u (power_pos (2 ^ b) l (pow_pos b)))) in
        ap₂ spot_at (ap (λ (m : ℕ). r + u / m) each) rest
        ∙ ap (λ (x : ℕ). spot_at (r + x / (2 ^ b) ^ l) (x % (2 ^ b) ^ l * span (2 ^ b) L l)) units
        ∙ sym (after_is (2 ^ b) L l 0 (pow_pos b) shallow (spot_at r q) proper whole k)
      where
        below : {x m : ℕ} → x < m → x ≤ m
        below {x} {m} less = omega arith
