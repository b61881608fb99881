-- The two loops of the prism, down by the digits of a position and up by the anchor's bits: a triangle's step and a line's bit a
-- turn, in units of the side. Assumes nothing.
use mathlib.Core.Path.{◌≡◌, refl, ap, ap₂, ◌∙◌, sym, subst}
use Prim.Native.Nat.{ℕ, suc, ◌+◌, ◌-◌, ◌*◌, ◌/◌, ◌%◌, ◌^◌, ◌≤◌, ◌<◌}
use native.Mathlib.Nat.{mod-eq_of_lt, mod-mod, mod-lt, pow-suc, zero-mul, mul-le-mul_right}
use native.Mathlib.Numerals.{add-one}
use native.Mathlib.Omega.{arith}
use lib.Dec.{lit<}
use Rattle.tree.specs.Anchors.{side, rounded}
use Rattle.tree.specs.Words.{element_at, position_at, position}
use Rattle.tree.proofs.Anchor.{side_edge, units_child, units_rounded, units_bit, grid_units}
use Rattle.tree.proofs.Walk.{reached_start, reached_step, reached_end, climbed_start, climbed_step, climbed_end, sum_below}
use Rattle.line.specs.Lawful.{line_path}
use Rattle.rows.specs.declared.Step.{Step}
use Rattle.rows.specs.declared.Slot.{Slot}
use Rattle.rows.specs.Rows.{step, child_row, slot_of, parent_kind, number_of}
use Rattle.rows.proofs.Tables.{child_row_small, parent_kind_lt, number_of_lt}
use Rattle.triangle.proofs.Units as plan
use Rattle.prism.specs.declared.Prism.{Prism}
use Rattle.prism.specs.Elements.{prism, prism_to, product}
use Rattle.prism.specs.Lawful.{prism_path, grids}

binary : prism.children ≡ 2 ^ 3
unfolding prism_to
binary = refl

abbrev pub unit : ℕ → ℕ → ℕ → ℕ → ℕ → Prism
unit l u v w t = record { x = u * side 21 l; y = v * side 21 l; z = w * side 21 l; level = l; kind = t }

pub unit_self : (e : Prism) → prism.fault e ≡ 0
    → e ≡ unit e.level (e.x / side 21 e.level) (e.y / side 21 e.level) (e.z / side 21 e.level) e.kind
unfolding prism_to
unit_self e sound =
    let k = grids 21 e sound in
    prism_path e _
    (sym (grid_units 21 e.level e.x k.0.grid_x))
    (sym (grid_units 21 e.level e.y k.0.grid_y))
    (sym (grid_units 21 e.level e.z k.1))
    refl refl

-- ---- one step
unit_child : (l u v w t d : ℕ) → l < 21
    → prism.child (unit l u v w t) d
    ≡ unit (suc l) (2 * u + (child_row t (d % 4)).x) (2 * v + (child_row t (d % 4)).y) (2 * w + d / 4) (child_row t (d % 4)).kind
unfolding prism_to
unit_child l u v w t d room =
    ap₂ product (plan.unit_child 21 l u v t (d % 4) room) (line_path _ (record { x = (2 * w + d / 4) * side 21 (suc l); level = suc l }) (units_child 21 l w (d / 4) room) refl)

unit_parent : (l u v w t : ℕ) → l < 21
    → prism.parent (unit (suc l) u v w t) ≡ unit l (u / 2) (v / 2) (w / 2) (parent_kind (step (u % 2) (v % 2) t))
unfolding prism_to
unit_parent l u v w t room =
    let up : suc l - 1 ≡ l = omega arith in
    ap₂ product (plan.unit_parent 21 l u v t room)
    (line_path _ (record { x = w / 2 * side 21 l; level = l }) (ap (λ (m : ℕ). rounded 21 m (w * side 21 (suc l))) up ∙ units_rounded 21 l w room) up)

unit_number : (l u v w t : ℕ) → prism.number (unit l u v w t) ≡ 4 * (w % 2) + number_of (step (u % 2) (v % 2) t)
unfolding prism_to
unit_number l u v w t = ap₂ (λ (m n : ℕ). 4 * m + n) (units_bit 21 l w) (plan.unit_number 21 l u v t)

-- ---- down: what is reached with `left` levels to go
pub record Reached (l p left x y z t : ℕ) : Type 0 where
  pub fewer : left ≤ l
  pub here : element_at prism (l - left) (p / 2 ^ (3 * left)) ≡ unit (l - left) x y z t
  pub wide : x < 2 ^ (l - left)
  pub deep : y < 2 ^ (l - left)
  pub high : z < 2 ^ (l - left)
  pub typed : t < 2

module _ (l p : ℕ) (shallow : l ≤ 21) where
  pub start : Reached l p l 0 0 0 0
  unfolding prism_to
  start =
      let none : l - l ≡ 0 = omega arith in
      let zero_side = sym (zero-mul (side 21 (l - l))) in
      record {
        fewer = omega arith;
        here = reached_start prism 3 binary l p ∙ prism_path _ _ zero_side zero_side zero_side (sym none) refl;
        wide = rw none (omega arith);
        deep = rw none (omega arith);
        high = rw none (omega arith);
        typed = omega arith;
      }

  module _ (left x y z t : ℕ) (r : Reached l p left x y z t) where
    -- the digit of this turn, and the row that the code reads by it
    abbrev digit : ℕ
    digit = p / 2 ^ (3 * (left - 1)) % 8

    pub digit_lt : digit < 8
    digit_lt = mod-lt (p / 2 ^ (3 * (left - 1))) (lit< tt)

    row : (s : Step) → s ≡ child_row (t % 2) (digit % 4 % 4) → s ≡ child_row t (digit % 4)
    row s read = read ∙ ap₂ child_row (mod-eq_of_lt r.typed) (mod-mod digit 4)

    pub small : (s : Step) → s ≡ child_row (t % 2) (digit % 4 % 4) → (s.x < 2) × ((s.y < 2) × (s.kind < 2))
    small s read = rw (row s read) (child_row_small t (digit % 4) r.typed (mod-lt digit (lit< tt)))

    pub again : 0 < left → (s : Step) → s ≡ child_row (t % 2) (digit % 4 % 4)
        → Reached l p (left - 1) (2 * x + s.x) (2 * y + s.y) (2 * z + digit / 4) s.kind
    again some s read =
        let more : l - (left - 1) ≡ suc (l - left) = omega (arith, r.fewer) in
        let bits = small s read in
        let below : 2 ^ (l - (left - 1)) ≡ 2 ^ (l - left) * 2 = ap (λ (k : ℕ). 2 ^ k) more ∙ pow-suc 2 (l - left) in
        let walked = reached_step prism 3 binary l p left (unit (l - left) x y z t) some r.fewer r.here in
        let down = unit_child (l - left) x y z t digit (omega (arith, r.fewer)) in
        let low = digit_lt in
        record {
          fewer = omega (arith, r.fewer);
          here =
              walked ∙ down
              ∙ ap (λ (q : Step). unit (suc (l - left)) (2 * x + q.x) (2 * y + q.y) (2 * z + digit / 4) q.kind) (sym (row s read))
              ∙ ap (λ (k : ℕ). unit k (2 * x + s.x) (2 * y + s.y) (2 * z + digit / 4) s.kind) (sym more);
          wide = omega (arith, r.wide);
          deep = omega (arith, r.deep);
          high = omega (arith, r.high);
          typed = bits.1.1;
        }

    -- a coordinate in sides, put into its word
    fits : (u : ℕ) → u < 2 ^ l → u * side 21 l % 4294967296 ≡ u * side 21 l
    fits u below =
        let whole : u * side 21 l ≤ 2 ^ l * side 21 l = mul-le-mul_right (side 21 l) (omega arith) in
        mod-eq_of_lt (omega (arith, side_edge 21 l shallow))

    pub end : left ≤ 0
        → record { x = x * side 21 l % 4294967296; y = y * side 21 l % 4294967296; z = z * side 21 l % 4294967296; level = l; kind = t }
        ≡ element_at prism l p
    end done =
        let all : l - left ≡ l = omega arith in
        let wide : x < 2 ^ l = subst (λ (k : ℕ). x < 2 ^ k) all r.wide in
        let deep : y < 2 ^ l = subst (λ (k : ℕ). y < 2 ^ k) all r.deep in
        let high : z < 2 ^ l = subst (λ (k : ℕ). z < 2 ^ k) all r.high in
        prism_path _ _ (fits x wide) (fits y deep) (fits z high) refl refl
        ∙ sym (reached_end prism 3 binary l p left (unit (l - left) x y z t) done r.here ∙ ap (λ (k : ℕ). unit k x y z t) all)

-- ---- up: i levels passed, their digits summed; P is the position looked for
pub record Climbed (P l sum i x y z t : ℕ) : Type 0 where
  pub passed : i ≤ l
  pub low : sum < 2 ^ (3 * i)
  pub typed : t < 2
  pub left : P ≡ sum + 2 ^ (3 * i) * position_at prism (l - i) (unit (l - i) x y z t)

pub climb_start : (l x y z t : ℕ) → t < 2 → Climbed (position_at prism l (unit l x y z t)) l 0 0 x y z t
climb_start l x y z t typed =
    let all : l ≡ l - 0 = omega arith in
    record {
      passed = omega arith;
      low = omega arith;
      typed = typed;
      left =
          climbed_start prism 3 binary l (unit l x y z t)
          ∙ ap (λ (m : ℕ). 0 + 2 ^ (3 * 0) * position_at prism (l - 0) (unit m x y z t)) all;
    }

module _ (P l sum i x y z t : ℕ) (r : Climbed P l sum i x y z t) (shallow : l ≤ 21) (slot : Slot)
    (read : slot ≡ slot_of (step (x % 2) (y % 2) (t % 2))) where
  kind_is : slot.kind ≡ parent_kind (step (x % 2) (y % 2) (t % 2))
  kind_is = ap (λ (s : Slot). s.kind) read

  number_is : slot.number ≡ number_of (step (x % 2) (y % 2) (t % 2))
  number_is = ap (λ (s : Slot). s.number) read

  -- the type is 0 or 1, so the remainder is the type
  plain : step (x % 2) (y % 2) (t % 2) ≡ step (x % 2) (y % 2) t
  plain = ap (step (x % 2) (y % 2)) (mod-eq_of_lt r.typed)

  pub climb_digit : 4 * (z % 2) + slot.number < 8
  climb_digit =
      let low = number_of_lt (x % 2) (y % 2) t (mod-lt x (lit< tt)) (mod-lt y (lit< tt)) r.typed in
      rw (number_is, plain) (omega arith)

  pub climb_again : i < l → Climbed P l (sum + (4 * (z % 2) + slot.number) * 2 ^ (3 * i)) (i + 1) (x / 2) (y / 2) (z / 2) slot.kind
  climb_again more =
      let up : l - i ≡ suc (l - (i + 1)) = omega arith in
      let e = unit (l - i) x y z t in
      let same : e ≡ unit (suc (l - (i + 1))) x y z t = ap (λ (k : ℕ). unit k x y z t) up in
      let d = 4 * (z % 2) + slot.number in
      let digit : 4 * (z % 2) + number_of (step (x % 2) (y % 2) t) ≡ d = ap (λ (n : ℕ). 4 * (z % 2) + n) (sym (number_is ∙ ap number_of plain)) in
      let kind : parent_kind (step (x % 2) (y % 2) t) ≡ slot.kind = sym (kind_is ∙ ap parent_kind plain) in
      let number = ap prism.number same ∙ unit_number (suc (l - (i + 1))) x y z t ∙ digit in
      let parent = ap prism.parent same ∙ unit_parent (l - (i + 1)) x y z t (omega arith) ∙ ap (unit (l - (i + 1)) (x / 2) (y / 2) (z / 2)) kind in
      record {
        passed = omega arith;
        low = subst (λ (k : ℕ). sum + d * 2 ^ (3 * i) < 2 ^ (3 * k)) (sym (add-one i)) (sum_below 3 sum d i r.low climb_digit);
        typed = subst (λ (k : ℕ). k < 2) kind (parent_kind_lt (x % 2) (y % 2) t (mod-lt x (lit< tt)) (mod-lt y (lit< tt)) r.typed);
        left =
            climbed_step prism 3 binary l P sum i e more r.left
            ∙ ap₂ (λ (n : ℕ) (f : Prism). sum + n * 2 ^ (3 * i) + 2 ^ (3 * (i + 1)) * position_at prism (l - (i + 1)) f) number parent;
      }

pub climb_end : (e : Prism) (sum i x y z t : ℕ) → prism.fault e ≡ 0
    → Climbed (position_at prism e.level (unit e.level (e.x / side 21 e.level) (e.y / side 21 e.level) (e.z / side 21 e.level) e.kind)) e.level sum i x y z t
    → e.level ≤ i → sum ≡ position prism e
unfolding prism_to
climb_end e sum i x y z t sound r done =
    sym
    (ap (position_at prism e.level) (unit_self e sound)
    ∙ climbed_end prism 3 binary e.level _ sum i (unit (e.level - i) x y z t) done r.left)
