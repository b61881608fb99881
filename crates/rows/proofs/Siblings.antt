-- The number that is worked out is the place in the child rows, and the parent's type is read off the bits and the type: eight steps, computed.
-- Assumes nothing.
use mathlib.Core.Path.{◌≡◌, refl, ap, sym}
use Prim.Native.Nat.{ℕ, ◌+◌, ◌*◌, ◌<◌}
use native.Mathlib.Omega.{arith}
use Rattle.rows.specs.declared.Step.{Step}
use Rattle.rows.specs.declared.Slot.{Slot}
use Rattle.rows.specs.Rows.{step, parent_kind, number_of, slot_of}
use Rattle.rows.specs.Siblings.{IsStep, ByRule}
use Rattle.rows.proofs.Tables.{each_step, number_of_child_lem, parent_kind_child, number_of_lt, parent_kind_lt, child_row_slot}

abbrev pub slot : ℕ → ℕ → Slot
slot t n = record { kind = t; number = n }

-- ---- where the bits agree, and where they differ
pub slot_agree : (x y t : ℕ) → x < 2 → y < 2 → t < 2 → x ≡ y → slot t (3 * x) ≡ slot_of (step x y t)
unfolding parent_kind number_of
slot_agree =
    each_step (λ (x y t : ℕ). x ≡ y → slot t (3 * x) ≡ slot_of (step x y t))
    (λ e. refl) (λ e. refl) (λ e. absurd (omega arith)) (λ e. absurd (omega arith)) (λ e. absurd (omega arith)) (λ e. absurd (omega arith)) (λ e. refl) (λ e. refl)

pub slot_differ : (x y t : ℕ) → x < 2 → y < 2 → t < 2 → (x ≡ y → ⊥) → slot y (1 + t) ≡ slot_of (step x y t)
unfolding parent_kind number_of
slot_differ =
    each_step (λ (x y t : ℕ). (x ≡ y → ⊥) → slot y (1 + t) ≡ slot_of (step x y t))
    (λ d. absurd (d refl)) (λ d. absurd (d refl)) (λ d. refl) (λ d. refl) (λ d. refl) (λ d. refl) (λ d. absurd (d refl)) (λ d. absurd (d refl))

-- ---- of the parent's type alone
bits_agree : (s : Step) → IsStep s → s.x ≡ s.y → parent_kind s ≡ s.kind
bits_agree s k e = sym (ap (λ (p : Slot). p.kind) (slot_agree s.x s.y s.kind k.x_bit k.y_bit k.type e))

bits_differ : (s : Step) → IsStep s → (s.x ≡ s.y → ⊥) → parent_kind s ≡ s.y
bits_differ s k d = sym (ap (λ (p : Slot). p.kind) (slot_differ s.x s.y s.kind k.x_bit k.y_bit k.type d))

pub by_rule : ByRule
unfolding number_of
by_rule =
    record {
      neither_bit = λ t. refl;
      both_bits = λ t. refl;
      bit_of_x = λ t. refl;
      bit_of_y = λ t. refl;
      number_of_child = number_of_child_lem;
      parent_of_child = parent_kind_child;
      one_of_four = λ s k. number_of_lt s.x s.y s.kind k.x_bit k.y_bit k.type;
      one_of_two = λ s k. parent_kind_lt s.x s.y s.kind k.x_bit k.y_bit k.type;
      in_its_place = λ s k. child_row_slot s.x s.y s.kind k.x_bit k.y_bit k.type;
      bits_agree = bits_agree;
      bits_differ = bits_differ;
    }
