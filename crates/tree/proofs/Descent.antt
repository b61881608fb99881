-- The positions of parent, child, successor and descendants: each is the position's digits with one more, one less, or a run of
-- zeros or of last digits behind them. Assumes nothing.
use Rattle.std.proofs.Common.{◌≡◌, ℕ, zero, suc, ◌+◌, ◌-◌, ◌*◌, ◌/◌, ◌^◌, ◌<◌, ◌≤◌, sym, ap, ◌∙◌, ap₂, add-zero, mul_assoc, mul_comm, add-sub_of_le, pow-suc, mul-one, arith}
use native.Mathlib.Nat.{pow-zero}
use Rattle.tree.specs.Shape.{Shape}
use Rattle.tree.specs.Words.{position_at, position, successor, descend, first, last}
use Rattle.tree.specs.Laws.{Sound, Lawful, OfLevel, Positions}
use Rattle.tree.proofs.Digits.{digit_div}
use Rattle.tree.proofs.RoundTrip.{at_sound, at_level, position_at_lem}

module _ {E : Type 0} (S : Shape E) (W : Lawful S) where
  -- ---- one step up, one step down
  -- the position of e by its parent's
  position_parent : (e : E) → 0 < S.level e → position S e ≡ S.children * position S (S.parent e) + S.number e
  unfolding position_at
  position_parent e deep = ap (λ (k : ℕ). position_at S k e) (sym (W.parent_level e deep))

  pub of_parent : (e : E) → Sound S e → 0 < S.level e → position S (S.parent e) ≡ position S e / S.children
  of_parent e sound deep =
      sym
      (ap (λ (k : ℕ). k / S.children) (position_parent e deep)
      ∙ digit_div S.children (position S (S.parent e)) (S.number e) (W.number_lt e sound deep))

  pub of_child : (e : E) (i : ℕ) → Sound S e → S.level e < S.highest → i < S.children
      → position S (S.child e i) ≡ S.children * position S e + i
  of_child e i sound room small =
      let deep : 0 < S.level (S.child e i) = omega (arith, W.child_level e i) in
      position_parent (S.child e i) deep
      ∙ ap₂ (λ (f : E) (k : ℕ). S.children * position S f + k) (W.parent_child e i sound room small) (W.number_child e i sound room small)

  pub of_successor : (e : E) → Sound S e → position S e + 1 < S.children ^ S.level e
      → OfLevel S (successor S e) (S.level e) × (position S (successor S e) ≡ position S e + 1)
  of_successor e sound below =
      let shallow = W.shallow e sound in (
        record { sound = at_sound S W (S.level e) (position S e + 1) shallow below; level = at_level S W (S.level e) (position S e + 1) },
        position_at_lem S W (S.level e) (position S e + 1) shallow below,
      )

  -- ---- always to the same child
  pub descend_level : (i k : ℕ) (e : E) → S.level (descend S i k e) ≡ S.level e + k
  unfolding descend
  descend_level i zero e = omega arith
  descend_level i (suc k) e = omega (arith, W.child_level (descend S i k e) i, descend_level i k e)

  pub descend_sound : (i k : ℕ) (e : E) → Sound S e → i < S.children → S.level e + k ≤ S.highest → Sound S (descend S i k e)
  unfolding descend
  descend_sound i zero e sound small room = sound
  descend_sound i (suc k) e sound small room =
      W.child_sound (descend S i k e) i (descend_sound i k e sound small (omega arith)) (omega (arith, descend_level i k e)) small

  -- one digit i more at each step
  position_step : (i k : ℕ) (e : E) → Sound S e → i < S.children → S.level e + suc k ≤ S.highest
      → position S (descend S i (suc k) e) ≡ S.children * position S (descend S i k e) + i
  unfolding descend
  position_step i k e sound small room =
      of_child (descend S i k e) i (descend_sound i k e sound small (omega arith)) (omega (arith, descend_level i k e)) small

  position_zeros : (k : ℕ) (e : E) → Sound S e → S.level e + k ≤ S.highest → position S (descend S 0 k e) ≡ position S e * S.children ^ k
  unfolding descend
  position_zeros zero e sound room = sym (ap (λ (m : ℕ). position S e * m) (pow-zero S.children) ∙ mul-one (position S e))
  position_zeros (suc k) e sound room =
      position_step 0 k e sound (omega (arith, W.several)) room
      ∙ add-zero (S.children * position S (descend S 0 k e))
      ∙ ap (λ (m : ℕ). S.children * m) (position_zeros k e sound (omega arith))
      ∙ mul_comm S.children (position S e * S.children ^ k)
      ∙ mul_assoc (position S e) (S.children ^ k) S.children
      ∙ ap (λ (m : ℕ). position S e * m) (sym (pow-suc S.children k))

  -- one past the last descendant is the first of the next element
  position_lasts : (k : ℕ) (e : E) → Sound S e → S.level e + k ≤ S.highest
      → position S (descend S (S.children - 1) k e) + 1 ≡ (position S e + 1) * S.children ^ k
  unfolding descend
  position_lasts zero e sound room = sym (ap (λ (m : ℕ). (position S e + 1) * m) (pow-zero S.children) ∙ mul-one (position S e + 1))
  position_lasts (suc k) e sound room =
      let n = S.children in
      let p = position S (descend S (n - 1) k e) in
      let step : position S (descend S (n - 1) (suc k) e) ≡ n * p + (n - 1) = position_step (n - 1) k e sound (omega (arith, W.several)) room in
      let whole : n * p + (n - 1) + 1 ≡ n * (p + 1) = omega (arith, W.several) in
      ap (λ (m : ℕ). m + 1) step
      ∙ whole
      ∙ ap (λ (m : ℕ). n * m) (position_lasts k e sound (omega arith))
      ∙ mul_comm n ((position S e + 1) * n ^ k)
      ∙ mul_assoc (position S e + 1) (n ^ k) n
      ∙ ap (λ (m : ℕ). (position S e + 1) * m) (sym (pow-suc n k))

  pub of_first : (e : E) (l : ℕ) → Sound S e → S.level e ≤ l → l ≤ S.highest
      → position S (first S e l) ≡ position S e * S.children ^ (l - S.level e)
  of_first e l sound down room = position_zeros (l - S.level e) e sound (omega arith)

  pub of_last : (e : E) (l : ℕ) → Sound S e → S.level e ≤ l → l ≤ S.highest
      → position S (last S e l) ≡ (position S e + 1) * S.children ^ (l - S.level e) - 1
  of_last e l sound down room = omega (arith, position_lasts (l - S.level e) e sound (omega arith))

  pub descend_stands : (i : ℕ) (e : E) (l : ℕ) → i < S.children → Sound S e → S.level e ≤ l → l ≤ S.highest → OfLevel S (descend S i (l - S.level e) e) l
  descend_stands i e l small sound down room =
      record {
        sound = descend_sound i (l - S.level e) e sound small (omega arith);
        level = descend_level i (l - S.level e) e ∙ add-sub_of_le down;
      }

  pub positions : Positions S
  positions =
      record { of_parent = of_parent; of_child = of_child; of_successor = of_successor; of_first = of_first; of_last = of_last }
