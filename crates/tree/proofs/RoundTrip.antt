-- Element at a position and position of an element undo each other: one step down and one step up do, and the position's last
-- digit is the child's number, so it follows by induction on the level. Assumes nothing.
use Rattle.std.proofs.Common.{◌≡◌, ℕ, zero, suc, ◌+◌, ◌*◌, ◌/◌, ◌%◌, ◌^◌, ◌<◌, ◌≤◌, sym, refl, ap, ◌∙◌, ap₂, mod-lt, arith}
use native.Mathlib.Nat.{div-add-mod, pow-zero, le_of_suc-le, suc_inj}
use Rattle.tree.specs.Shape.{Shape}
use Rattle.tree.specs.Words.{element_at, position_at, position}
use Rattle.tree.specs.Laws.{Sound, Lawful}
use Rattle.tree.proofs.Digits.{digit_div, digit_mod, digit_lt, div_lt}

-- all of it, of the words; `CallLaws.antt` says it of the calls
pub record RoundTrips {E : Type 0} (S : Shape E) : Type 0 where
  pub at_sound : (l p : ℕ) → l ≤ S.highest → p < S.children ^ l → Sound S (element_at S l p)
  pub at_level : (l p : ℕ) → S.level (element_at S l p) ≡ l
  pub position_at_lem : (l p : ℕ) → l ≤ S.highest → p < S.children ^ l → position S (element_at S l p) ≡ p
  pub position_lt : (e : E) → Sound S e → position S e < S.children ^ S.level e
  pub at_position : (e : E) → Sound S e → element_at S (S.level e) (position S e) ≡ e

module _ {E : Type 0} (S : Shape E) (W : Lawful S) where
  n_pos : 0 < S.children
  n_pos = omega (arith, W.several)

  pub at_level : (l p : ℕ) → S.level (element_at S l p) ≡ l
  unfolding element_at
  at_level zero p = W.root_level
  at_level (suc l) p = W.child_level _ _ ∙ ap suc (at_level l (p / S.children))

  pub at_sound : (l p : ℕ) → l ≤ S.highest → p < S.children ^ l → Sound S (element_at S l p)
  unfolding element_at
  at_sound zero p shallow below = W.root_sound
  at_sound (suc l) p shallow below =
      W.child_sound (element_at S l (p / S.children)) (p % S.children)
      (at_sound l (p / S.children) (le_of_suc-le shallow) (div_lt S.children p l n_pos below))
      (rw at_level shallow)
      (mod-lt p n_pos)

  -- the position of the element at p, at its level
  position_at_at : (l p : ℕ) → l ≤ S.highest → p < S.children ^ l → position_at S l (element_at S l p) ≡ p
  unfolding element_at position_at
  position_at_at zero p shallow below = let only : p < 1 = rw pow-zero at below in omega arith
  position_at_at (suc l) p shallow below =
      let q = p / S.children in
      let i = p % S.children in
      let up = element_at S l q in
      let less : q < S.children ^ l = div_lt S.children p l n_pos below in
      let sound : Sound S up = at_sound l q (le_of_suc-le shallow) less in
      let room : S.level up < S.highest = rw at_level shallow in
      let small : i < S.children = mod-lt p n_pos in
      ap₂ (λ (e : E) (k : ℕ). S.children * position_at S l e + k) (W.parent_child up i sound room small) (W.number_child up i sound room small)
      ∙ ap (λ (k : ℕ). S.children * k + i) (position_at_at l q (le_of_suc-le shallow) less)
      ∙ div-add-mod p S.children

  pub position_at_lem : (l p : ℕ) → l ≤ S.highest → p < S.children ^ l → position S (element_at S l p) ≡ p
  position_at_lem l p shallow below = ap (λ (k : ℕ). position_at S k (element_at S l p)) (at_level l p) ∙ position_at_at l p shallow below

  position_at_lt : (l : ℕ) (e : E) → S.level e ≡ l → Sound S e → position_at S l e < S.children ^ l
  unfolding position_at
  position_at_lt zero e flat sound = rw pow-zero (omega arith)
  position_at_lt (suc l) e deep sound =
      let deeper : 0 < S.level e = omega arith in
      let up : S.level (S.parent e) ≡ l = suc_inj (W.parent_level e deeper ∙ deep) in
      digit_lt S.children (position_at S l (S.parent e)) (S.number e) l
      (position_at_lt l (S.parent e) up (W.parent_sound e sound deeper))
      (W.number_lt e sound deeper)

  pub position_lt : (e : E) → Sound S e → position S e < S.children ^ S.level e
  position_lt e sound = position_at_lt (S.level e) e refl sound

  at_position_at : (l : ℕ) (e : E) → S.level e ≡ l → Sound S e → element_at S l (position_at S l e) ≡ e
  unfolding element_at position_at
  at_position_at zero e flat sound = sym (W.root_only e sound flat)
  at_position_at (suc l) e deep sound =
      let deeper : 0 < S.level e = omega arith in
      let up : S.level (S.parent e) ≡ l = suc_inj (W.parent_level e deeper ∙ deep) in
      let q = position_at S l (S.parent e) in
      let i = S.number e in
      let small : i < S.children = W.number_lt e sound deeper in
      ap₂ (λ (a b : ℕ). S.child (element_at S l a) b) (digit_div S.children q i small) (digit_mod S.children q i small)
      ∙ ap (λ (f : E). S.child f i) (at_position_at l (S.parent e) up (W.parent_sound e sound deeper))
      ∙ W.child_parent e sound deeper

  pub at_position : (e : E) → Sound S e → element_at S (S.level e) (position S e) ≡ e
  at_position e sound = at_position_at (S.level e) e refl sound

  -- two positions of one level have two elements
  pub at_apart : (l p q : ℕ) → l ≤ S.highest → p < q → q < S.children ^ l → element_at S l p ≡ element_at S l q → ⊥
  at_apart l p q shallow less below same =
      let place : position S (element_at S l p) ≡ position S (element_at S l q) = ap (position S) same in
      omega (arith, position_at_lem l p shallow (omega arith), position_at_lem l q shallow below)

  -- the place decides the element
  pub place_injective : (e f : E) → Sound S e → Sound S f → S.level e ≡ S.level f → position S e ≡ position S f → e ≡ f
  place_injective e f ok fine level place = sym (at_position e ok) ∙ ap₂ (element_at S) level place ∙ at_position f fine

  pub round_trips : RoundTrips S
  round_trips =
      record { at_sound = at_sound; at_level = at_level; position_at_lem = position_at_lem; position_lt = position_lt; at_position = at_position }
