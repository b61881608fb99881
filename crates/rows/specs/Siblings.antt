-- Document 02, ticket 3: a triangle's number by the rule, and "Every answer stays as it is": it is the place in the child rows. The parent's type can
-- be read off the same two bits and the type. Definitions only.
--
--   IsStep s   the two bits and the type of a step are 0 or 1 each: there are eight
--   ByRule     the number is 0 when neither bit is set, 3 when both are, and otherwise 1 plus the type; child i of a parent of either type has
--              number i and that parent's type; each of the eight steps has a number below 4 and a parent's type 0 or 1, in whose row it stands at
--              that number; the parent's type is the type itself where the bits agree, else the bit of y
--
-- Assumes nothing.
use Rattle.std.specs.Prelude.{◌≡◌, ℕ, ◌+◌, ◌<◌}
use Rattle.rows.specs.declared.Step.{Step}
use Rattle.rows.specs.Rows.{step, child_row, parent_kind, number_of}

pub record IsStep (s : Step) : Type 0 where
  pub x_bit : s.x < 2
  pub y_bit : s.y < 2
  pub type : s.kind < 2

pub record ByRule : Type 0 where
  pub neither_bit : (t : ℕ) → number_of (step 0 0 t) ≡ 0
  pub both_bits : (t : ℕ) → number_of (step 1 1 t) ≡ 3
  pub bit_of_x : (t : ℕ) → number_of (step 1 0 t) ≡ 1 + t
  pub bit_of_y : (t : ℕ) → number_of (step 0 1 t) ≡ 1 + t
  pub number_of_child : (t i : ℕ) → t < 2 → i < 4 → number_of (child_row t i) ≡ i
  pub parent_of_child : (t i : ℕ) → t < 2 → i < 4 → parent_kind (child_row t i) ≡ t
  pub one_of_four : (s : Step) → IsStep s → number_of s < 4
  pub one_of_two : (s : Step) → IsStep s → parent_kind s < 2
  pub in_its_place : (s : Step) → IsStep s → child_row (parent_kind s) (number_of s) ≡ s
  pub bits_agree : (s : Step) → IsStep s → s.x ≡ s.y → parent_kind s ≡ s.kind
  pub bits_differ : (s : Step) → IsStep s → (s.x ≡ s.y → ⊥) → parent_kind s ≡ s.y
