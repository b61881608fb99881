-- The elements of level l that lie in e are those whose position, without its last digits, is that of e: they stand from the first
-- descendant to the last, one for each choice of the digits that are left off. Assumes nothing.
use Rattle.std.proofs.Common.{◌≡◌, ℕ, ◌+◌, ◌-◌, ◌*◌, ◌/◌, ◌^◌, ◌<◌, ◌≤◌, ◌↔◌, sym, refl, ap, ◌∙◌, subst, ap₂, add-sub_of_le, arith}
use mathlib.Core.Logic.{∥∥₁_elim}
use mathlib.Core.Bool.{Bool-set}
use native.Mathlib.Nat.{ℕ_set}
use Rattle.paper.specs.Exactly.{Exactly}
use Rattle.paper.proofs.Exactly.{exactly_rows}
use Rattle.tree.specs.Shape.{Shape}
use Rattle.tree.specs.Words as words
use Rattle.tree.specs.Words.{element_at, position}
use Rattle.tree.specs.Laws.{Sound, Lawful, OfLevel}
use Rattle.tree.specs.Ancestors.{LiesIn}
use Rattle.tree.specs.Descendants.{Descends, Descendants}
use Rattle.tree.proofs.Digits.{power_pos, digits_lt, quotient_between}
use Rattle.tree.proofs.RoundTrip.{at_sound, at_level, position_at_lem, position_lt, at_position, at_apart}
use Rattle.tree.proofs.Descent.{descend_stands, of_first, of_last}
use Rattle.tree.proofs.Ancestors.{ancestors}

module _ {E : Type 0} (S : Shape E) (W : Lawful S) where
  -- how many elements of level l lie in e, and the position of the first of them
  abbrev span : E → ℕ → ℕ
  span e l = S.children ^ (l - S.level e)

  abbrev start : E → ℕ → ℕ
  start e l = position S e * span e l

  span_pos : (e : E) (l : ℕ) → 0 < span e l
  span_pos e l = power_pos S.children (l - S.level e) (omega (arith, W.several))

  module _ (e : E) (l : ℕ) (ok : Sound S e) (down : S.level e ≤ l) (room : l ≤ S.highest) where
    -- ---- what lies in e stands in a row
    row : (f : E) → OfLevel S f l → LiesIn S f e ↔ ((start e l ≤ position S f) × (position S f ≤ (position S e + 1) * span e l - 1))
    row f stands =
        let by = (ancestors S W).by_position f e stands.sound ok (omega (arith, stands.level)) in
        let level = ap (λ (m : ℕ). position S f / span e m) stands.level in
        let quotient = quotient_between (position S e) (position S f) (span e l) (span_pos e l) in
        (λ h. quotient.0 (sym level ∙ by.0 h), λ h. by.1 (level ∙ quotient.1 h))

    -- its first and its last
    first_descends : Descends S e l (words.first S e l)
    first_descends =
        let stands = descend_stands S W 0 e l (omega (arith, W.several)) ok down room in
        let place = of_first S W e l ok down room in
        record { stands = stands; lies = (row (words.first S e l) stands).1 (omega arith, omega (arith, span_pos e l)) }

    last_descends : Descends S e l (words.last S e l)
    last_descends =
        let stands = descend_stands S W (S.children - 1) e l (omega (arith, W.several)) ok down room in
        let place = of_last S W e l ok down room in
        record { stands = stands; lies = (row (words.last S e l) stands).1 (omega (arith, span_pos e l), omega arith) }

    -- ---- the elements of the row, one for each number below its length
    abbrev entry : ℕ → E
    entry i = element_at S l (start e l + i)

    entry_lt : (i : ℕ) → i < span e l → start e l + i < S.children ^ l
    entry_lt i small =
        subst (λ (m : ℕ). start e l + i < S.children ^ m) (add-sub_of_le down)
        (digits_lt S.children (position S e) i (S.level e) (l - S.level e) (position_lt S W e ok) small)

    entry_descends : (i : ℕ) → i < span e l → Descends S e l (entry i)
    entry_descends i small =
        let below = entry_lt i small in
        let stands : OfLevel S (entry i) l = record { sound = at_sound S W l _ room below; level = at_level S W l _ } in
        let place = position_at_lem S W l _ room below in
        record { stands = stands; lies = (row (entry i) stands).1 (omega arith, omega arith) }

    descends_entry : (f : E) → Descends S e l f → (i : ℕ) × (i < span e l × f ≡ entry i)
    descends_entry f d =
        let inside = (row f d.stands).0 d.lies in
        let place : position S f ≡ start e l + (position S f - start e l) = omega (arith, inside.0) in (
          position S f - start e l,
          (
            omega (arith, inside.0, inside.1, span_pos e l),
            sym (at_position S W f d.stands.sound) ∙ ap₂ (element_at S) d.stands.level place,
          ),
        )

    -- what lies in e is found by a test, so its mere truth gives it
    descends_read : (f : E) → ∥ Descends S e l f ∥₁ → Descends S e l f
    descends_read f m =
        let fine : Sound S f = ∥∥₁_elim m (ℕ_set _ _) (λ d. d.stands.sound) in
        let decided = (ancestors S W).decided f e fine in
        record {
          stands = record { sound = fine; level = ∥∥₁_elim m (ℕ_set _ _) (λ d. d.stands.level) };
          lies = decided.0 (∥∥₁_elim m (Bool-set _ _) (λ d. decided.1 d.lies));
        }

    many : Exactly (S.children ^ (l - S.level e)) (Descends S e l)
    many =
        exactly_rows (Descends S e l) entry (span e l) descends_read entry_descends descends_entry
        (λ i j less below. at_apart S W l _ _ room (omega arith) (entry_lt j below))

  pub descendants : Descendants S
  descendants =
      record {
        of_first = first_descends;
        of_last = last_descends;
        between = λ e f ok fine down.
            let l = S.level f in
            let room = W.shallow f fine in
            let low = of_first S W e l ok down room in
            let high = of_last S W e l ok down room in
            let there = row e l ok down room f (record { sound = fine; level = refl }) in
            (λ h. (omega (arith, (there.0 h).0), omega (arith, (there.0 h).1)), λ h. there.1 (omega arith, omega arith));
        many = many;
      }
