-- What follows from the constants that a shape states: how many elements a level has, in a word. Assumes nothing.
use Rattle.std.proofs.Common.{◌≡◌, ℕ, ◌+◌, ◌-◌, ◌*◌, ◌%◌, ◌^◌, ◌<◌, ◌≤◌, sym, ap, subst, ◌∙◌, arith}
use Rattle.std.proofs.Math.Nat.{mul-le-mul_left}
use lib.Pow.{pow_mono}
use Rattle.tree.specs.Shape.{Shape}
use Rattle.tree.specs.Laws.{Lawful, Sound}
use Rattle.tree.specs.Words.{position, first}
use Rattle.tree.specs.Stated.{States}
use Rattle.tree.proofs.Digits.{shifted_power, power_bits}
use Rattle.tree.proofs.RoundTrip.{position_lt}
use Rattle.tree.proofs.Walk.{start_shifted}

module _ {E : Type 0} (S : Shape E) {b n f k : ℕ} (st : States S b n f k) where
  level_bits : (l : ℕ) → l ≤ 21 → b * l ≤ 63
  level_bits l shallow = omega (arith, mul-le-mul_left b shallow, st.in_a_word)

  -- a 1 shifted by the bits of a level counts its elements
  pub level_size : (l : ℕ) → l ≤ 21 → 1 * 2 ^ (b * l) % 2 ^ 64 ≡ S.children ^ l
  level_size l shallow = shifted_power b l (omega (arith, level_bits l shallow)) ∙ ap (λ (m : ℕ). m ^ l) (sym st.by_bits)

  module _ (L : Lawful S) (e : E) (sound : Sound S e) where
    pub shallow : S.level e ≤ 21
    shallow = omega (arith, L.shallow e sound, st.highest)

    -- there is room for one more
    pub next_fits : position S e + 1 < 2 ^ 64
    next_fits =
        let below : position S e < S.children ^ S.level e = position_lt S L e sound in
        let size : S.children ^ S.level e ≡ 2 ^ (b * S.level e) = ap (λ (m : ℕ). m ^ S.level e) st.by_bits ∙ power_bits b (S.level e) in
        let small : 2 ^ (b * S.level e) ≤ 2 ^ 63 = pow_mono {i = b * S.level e} {j = 63} (level_bits (S.level e) shallow) in
        omega arith

    pub start_is : position S e * 2 ^ (b * (21 - S.level e)) % 2 ^ 64 ≡ position S (first S e 21)
    start_is =
        let narrow : b * S.highest ≤ 64 = omega (arith, ap (λ (h : ℕ). b * h) st.highest, st.in_a_word) in
        subst (λ (h : ℕ). position S e * 2 ^ (b * (h - S.level e)) % 2 ^ 64 ≡ position S (first S e h)) st.highest
        (start_shifted S L b st.by_bits narrow e sound)
