-- The order of two among ancestors and on one level: what lies in e has its first descendant in e, so at e's own or after it, and is
-- deeper; on one level first descendants stand as the positions do. Assumes nothing.
use Rattle.std.proofs.Common.{◌≡◌, ℕ, ◌-◌, ◌*◌, ◌^◌, ◌<◌, ◌≤◌, ◌↔◌, refl, ap, ◌∙◌, subst, ⊎_elim, le_refl, lt_of_mul-lt-mul_right, mul-lt-mul_of_pos_right, arith}
use native.Mathlib.Decide.{dec_lt}
use Rattle.paper.specs.Outcome.{less}
use Rattle.tree.specs.Shape.{Shape}
use Rattle.tree.specs.Words.{position, first, order}
use Rattle.tree.specs.Laws.{Sound, Lawful}
use Rattle.tree.specs.Ancestors.{up, LiesIn}
use Rattle.tree.specs.Descendants.{CurveOrder}
use Rattle.tree.proofs.Digits.{power_pos}
use Rattle.tree.proofs.Ancestors.{ancestors, reached_exactly}
use Rattle.tree.proofs.Descendants.{descendants}
use Rattle.tree.proofs.Ordering.{compared_less, lex_less, lex_within, place, place_of}

module _ {E : Type 0} (S : Shape E) (W : Lawful S) (e f : E) (ok : Sound S e) (fine : Sound S f) where
  -- ---- what lies in e
  deeper : LiesIn S f e → (f ≡ e → ⊥) → S.level e < S.level f
  unfolding up
  deeper lies other = from (dec_lt (S.level e) (S.level f))
    where
      from : Dec (S.level e < S.level f) → S.level e < S.level f
      from (yes below) = below
      from (no beside) =
          let none : 0 ≡ S.level f - S.level e = omega arith in
          absurd (other (ap (λ (k : ℕ). up S k f) none ∙ reached_exactly S W f e fine lies))

  begins : LiesIn S f e → place S e ≤ place S f
  begins lies =
      let L = S.highest in
      let d = (descendants S W).of_first f L fine (W.shallow f fine) (le_refl L) in
      let within = (ancestors S W).carried (first S f L) f e d.stands.sound d.lies lies in
      subst (λ (m : ℕ). position S (first S e m) ≤ place S f) d.stands.level
      (((descendants S W).between e (first S f L) ok d.stands.sound (omega (arith, d.stands.level, W.shallow e ok))).0 within).0

  ancestor_first : LiesIn S f e → (f ≡ e → ⊥) → order S e f ≡ less
  unfolding order
  ancestor_first lies other = lex_within (place S e) (S.level e) (place S f) (S.level f) (begins lies) (deeper lies other)

  -- ---- on one level
  by_position : S.level e ≡ S.level f → order S e f ≡ less ↔ position S e < position S f
  unfolding order
  by_position level = (there, back)
    where
      k : ℕ
      k = S.highest - S.level f

      first_lt : place S e < place S f ↔ position S e * S.children ^ k < position S f * S.children ^ k
      first_lt = rw (place_of S W e (S.level f) ok level, place_of S W f (S.level f) fine refl) (λ h. h, λ h. h)

      there : order S e f ≡ less → position S e < position S f
      there h =
          ⊎_elim
          (λ (before : place S e < place S f). lt_of_mul-lt-mul_right (S.children ^ k) (first_lt.0 before))
          (λ (beside : (place S e ≡ place S f) × (S.level e < S.level f)). absurd (omega (arith, beside.1)))
          (lex_less (place S e) (S.level e) (place S f) (S.level f) h)

      back : position S e < position S f → order S e f ≡ less
      back before =
          compared_less (place S e) (place S f) _
          (first_lt.1 (mul-lt-mul_of_pos_right before (power_pos S.children k (omega (arith, W.several)))))

pub curve_order : {E : Type 0} (S : Shape E) → Lawful S → CurveOrder S
curve_order S W = record { ancestor_first = ancestor_first S W; by_position = by_position S W }
