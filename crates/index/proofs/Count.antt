-- Where an index rises with the position, the elements before e are those at the positions below that of e, so there are as many as that
-- position says. Assumes nothing.
use mathlib.Core.Path.{◌≡◌, ap, ◌∙◌, sym}
use mathlib.Core.Logic.{∥∥₁_elim}
use Prim.Native.Nat.{ℕ, ◌^◌, ◌<◌}
use native.Mathlib.Nat.{ℕ_set}
use native.Mathlib.Bridge.{le_prop}
use native.Mathlib.Decide.{dec_lt}
use native.Mathlib.Omega.{arith}
use Rattle.paper.specs.Exactly.{Exactly}
use Rattle.paper.proofs.Exactly.{exactly_rows}
use Rattle.tree.specs.Shape.{Shape}
use Rattle.tree.specs.Words.{element_at, position}
use Rattle.tree.specs.Laws.{Sound, Lawful}
use Rattle.tree.proofs.RoundTrip.{at_sound, at_level, position_at_lem, position_lt, at_position, at_apart, place_injective}
use Rattle.index.specs.Rank.{Before, Ranked}

module _ {E : Type 0} (S : Shape E) where
  -- on each level the index rises with the position
  abbrev pub Rises : (E → ℕ) → Type 0
  Rises index = (e f : E) → Sound S e → Sound S f → S.level e ≡ S.level f → position S e < position S f → index e < index f

  module _ (W : Lawful S) (index : E → ℕ) (rises : Rises index) where
    position_smaller : (e f : E) → Sound S e → Before S index f e → position S f < position S e
    position_smaller e f ok before = decide (dec_lt (position S f) (position S e)) (dec_lt (position S e) (position S f))
      where
        decide : Dec (position S f < position S e) → Dec (position S e < position S f) → position S f < position S e
        decide (yes less) other = less
        decide (no more) (yes above) = absurd (omega (arith, before.smaller, rises e f ok before.sound (sym before.level) above))
        decide (no more) (no less) =
            let place : position S f ≡ position S e = omega arith in
            absurd (omega (arith, before.smaller, ap index (place_injective S W f e before.sound ok before.level place)))

    -- ---- the elements of e's level at the positions below that of e
    module _ (e : E) (ok : Sound S e) where
      abbrev earlier : ℕ → E
      earlier p = element_at S (S.level e) p

      earlier_before : (p : ℕ) → p < position S e → Before S index (earlier p) e
      earlier_before p below =
          let l = S.level e in
          let shallow = W.shallow e ok in
          let inside : p < S.children ^ l = omega (arith, position_lt S W e ok) in
          let fine = at_sound S W l p shallow inside in
          record {
            sound = fine;
            level = at_level S W l p;
            smaller = rises (earlier p) e fine ok (at_level S W l p) (rw (position_at_lem S W l p shallow inside) below);
          }

      before_earlier : (f : E) → Before S index f e → (p : ℕ) × (p < position S e × f ≡ earlier p)
      before_earlier f before = (
        position S f,
        (
          position_smaller e f ok before,
          sym (at_position S W f before.sound) ∙ ap (λ (l : ℕ). element_at S l (position S f)) before.level,
        ),
      )

      -- each field is a fact on numbers, so its mere truth gives it
      before_read : (f : E) → ∥ Before S index f e ∥₁ → Before S index f e
      before_read f m =
          record {
            sound = ∥∥₁_elim m (ℕ_set _ _) λ b. b.sound;
            level = ∥∥₁_elim m (ℕ_set _ _) λ b. b.level;
            smaller = ∥∥₁_elim m le_prop λ b. b.smaller;
          }

      counted : Exactly (position S e) (λ f. Before S index f e)
      counted =
          exactly_rows (λ f. Before S index f e) earlier (position S e) before_read earlier_before before_earlier
          (λ p q less below. at_apart S W (S.level e) p q (W.shallow e ok) less (omega (arith, position_lt S W e ok)))

    pub ranked_of_rises : Ranked S index
    ranked_of_rises = record { counted = counted }
