-- The two loops of the triangle: down by the digits of a position, up to the root by the anchor's bits. Each holds an element in units
-- of its side. Assumes nothing.
use mathlib.Core.Path.{◌≡◌, refl, ap, ap₂, ◌∙◌, sym, subst}
use Prim.Native.Nat.{ℕ, suc, ◌+◌, ◌-◌, ◌*◌, ◌/◌, ◌%◌, ◌^◌, ◌≤◌, ◌<◌}
use native.Mathlib.Nat.{mod-eq_of_lt, mod-mod, mod-lt, pow-suc, zero-mul, mul-le-mul_right}
use native.Mathlib.Numerals.{add-one}
use native.Mathlib.Omega.{arith}
use lib.Dec.{lit<}
use Rattle.tree.specs.Anchors.{side}
use Rattle.tree.specs.Words.{element_at, position_at, position}
use Rattle.tree.proofs.Anchor.{side_edge}
use Rattle.tree.proofs.Walk.{reached_start, reached_step, reached_end, climbed_start, climbed_step, climbed_end, sum_below}
use Rattle.rows.specs.declared.Step.{Step}
use Rattle.rows.specs.declared.Slot.{Slot}
use Rattle.triangle.specs.declared.Triangle.{Triangle}
use Rattle.rows.specs.Rows.{step, child_row, slot_of, parent_kind, number_of}
use Rattle.triangle.specs.Elements.{triangle, triangle_to}
use Rattle.rows.proofs.Tables.{child_row_small, parent_kind_lt, number_of_lt}
use Rattle.triangle.specs.Lawful.{triangle_path, Known}
use Rattle.triangle.proofs.Units.{unit, unit_self, unit_child, unit_parent, unit_number}

binary : triangle.children ≡ 2 ^ 2
unfolding triangle_to
binary = refl

-- ---- down: what is reached with `left` levels to go
pub record Reached (l p left x y t : ℕ) : Type 0 where
  pub fewer : left ≤ l
  pub here : element_at triangle (l - left) (p / 2 ^ (2 * left)) ≡ unit 21 (l - left) x y t
  pub wide : x < 2 ^ (l - left)
  pub deep : y < 2 ^ (l - left)
  pub typed : t < 2

module _ (l p : ℕ) (shallow : l ≤ 21) where
  pub start : Reached l p l 0 0 0
  unfolding triangle_to
  start =
      let none : l - l ≡ 0 = omega arith in
      record {
        fewer = omega arith;
        here = reached_start triangle 2 binary l p ∙ triangle_path _ _ (sym (zero-mul (side 21 (l - l)))) (sym (zero-mul (side 21 (l - l)))) (sym none) refl;
        wide = rw none (omega arith);
        deep = rw none (omega arith);
        typed = omega arith;
      }

  module _ (left x y t : ℕ) (r : Reached l p left x y t) where
    -- the row that the code reads there
    pub row : (s : Step) → s ≡ child_row (t % 2) (p / 2 ^ (2 * (left - 1)) % 4 % 4) → s ≡ child_row t (p / 2 ^ (2 * (left - 1)) % 4)
    row s read = read ∙ ap₂ child_row (mod-eq_of_lt r.typed) (mod-mod (p / 2 ^ (2 * (left - 1))) 4)

    pub small : (s : Step) → s ≡ child_row (t % 2) (p / 2 ^ (2 * (left - 1)) % 4 % 4) → (s.x < 2) × ((s.y < 2) × (s.kind < 2))
    small s read = rw (row s read) (child_row_small t (p / 2 ^ (2 * (left - 1)) % 4) r.typed (mod-lt (p / 2 ^ (2 * (left - 1))) (lit< tt)))

    pub again : 0 < left → (s : Step) → s ≡ child_row (t % 2) (p / 2 ^ (2 * (left - 1)) % 4 % 4)
        → Reached l p (left - 1) (2 * x + s.x) (2 * y + s.y) s.kind
    unfolding triangle_to
    again some s read =
        let d = p / 2 ^ (2 * (left - 1)) % 4 in
        let more : l - (left - 1) ≡ suc (l - left) = omega (arith, r.fewer) in
        let bits = small s read in
        let below : 2 ^ (l - (left - 1)) ≡ 2 ^ (l - left) * 2 = ap (λ (k : ℕ). 2 ^ k) more ∙ pow-suc 2 (l - left) in
        let walked = reached_step triangle 2 binary l p left (unit 21 (l - left) x y t) some r.fewer r.here in
        let down = unit_child 21 (l - left) x y t d (omega (arith, r.fewer)) in
        record {
          fewer = omega (arith, r.fewer);
          here =
              walked ∙ down
              ∙ ap (λ (q : Step). unit 21 (suc (l - left)) (2 * x + q.x) (2 * y + q.y) q.kind) (sym (row s read))
              ∙ ap (λ (k : ℕ). unit 21 k (2 * x + s.x) (2 * y + s.y) s.kind) (sym more);
          wide = omega (arith, r.wide);
          deep = omega (arith, r.deep);
          typed = bits.1.1;
        }

    -- a coordinate in sides, put into its word
    fits : (u : ℕ) → u < 2 ^ l → u * side 21 l % 4294967296 ≡ u * side 21 l
    fits u below =
        let whole : u * side 21 l ≤ 2 ^ l * side 21 l = mul-le-mul_right (side 21 l) (omega arith) in
        mod-eq_of_lt (omega (arith, side_edge 21 l shallow))

    pub end : left ≤ 0
        → record { x = x * side 21 l % 4294967296; y = y * side 21 l % 4294967296; level = l; kind = t } ≡ element_at triangle l p
    end done =
        let all : l - left ≡ l = omega arith in
        let wide : x < 2 ^ l = subst (λ (k : ℕ). x < 2 ^ k) all r.wide in
        let deep : y < 2 ^ l = subst (λ (k : ℕ). y < 2 ^ k) all r.deep in
        triangle_path _ _ (fits x wide) (fits y deep) refl refl
        ∙ sym (reached_end triangle 2 binary l p left (unit 21 (l - left) x y t) done r.here ∙ ap (λ (k : ℕ). unit 21 k x y t) all)

-- ---- up: i levels passed, their digits summed; P is the position looked for
pub record Climbed (P l sum i x y t : ℕ) : Type 0 where
  pub passed : i ≤ l
  pub low : sum < 2 ^ (2 * i)
  pub typed : t < 2
  pub left : P ≡ sum + 2 ^ (2 * i) * position_at triangle (l - i) (unit 21 (l - i) x y t)

pub climb_start : (l x y t : ℕ) → t < 2 → Climbed (position_at triangle l (unit 21 l x y t)) l 0 0 x y t
climb_start l x y t typed =
    let all : l ≡ l - 0 = omega arith in
    record {
      passed = omega arith;
      low = omega arith;
      typed = typed;
      left =
          climbed_start triangle 2 binary l (unit 21 l x y t)
          ∙ ap (λ (m : ℕ). 0 + 2 ^ (2 * 0) * position_at triangle (l - 0) (unit 21 m x y t)) all;
    }

module _ (P l sum i x y t : ℕ) (r : Climbed P l sum i x y t) (shallow : l ≤ 21) (slot : Slot)
    (read : slot ≡ slot_of (step (x % 2) (y % 2) (t % 2))) where
  kind_is : slot.kind ≡ parent_kind (step (x % 2) (y % 2) (t % 2))
  kind_is = ap (λ (s : Slot). s.kind) read

  number_is : slot.number ≡ number_of (step (x % 2) (y % 2) (t % 2))
  number_is = ap (λ (s : Slot). s.number) read

  -- the type is 0 or 1, so the remainder is the type
  plain : step (x % 2) (y % 2) (t % 2) ≡ step (x % 2) (y % 2) t
  plain = ap (step (x % 2) (y % 2)) (mod-eq_of_lt r.typed)

  pub climb_digit : slot.number < 4
  climb_digit = rw (number_is, plain) (number_of_lt (x % 2) (y % 2) t (mod-lt x (lit< tt)) (mod-lt y (lit< tt)) r.typed)

  pub climb_again : i < l → Climbed P l (sum + slot.number * 2 ^ (2 * i)) (i + 1) (x / 2) (y / 2) slot.kind
  unfolding triangle_to
  climb_again more =
      let up : l - i ≡ suc (l - (i + 1)) = omega arith in
      let e = unit 21 (l - i) x y t in
      let e' = unit 21 (suc (l - (i + 1))) x y t in
      let same : e ≡ e' = ap (λ (k : ℕ). unit 21 k x y t) up in
      let digit : number_of (step (x % 2) (y % 2) t) ≡ slot.number = sym (number_is ∙ ap number_of plain) in
      let kind : parent_kind (step (x % 2) (y % 2) t) ≡ slot.kind = sym (kind_is ∙ ap parent_kind plain) in
      let number = ap triangle.number same ∙ unit_number 21 (suc (l - (i + 1))) x y t ∙ digit in
      let parent = ap triangle.parent same ∙ unit_parent 21 (l - (i + 1)) x y t (omega arith) ∙ ap (unit 21 (l - (i + 1)) (x / 2) (y / 2)) kind in
      record {
        passed = omega arith;
        low = subst (λ (k : ℕ). sum + slot.number * 2 ^ (2 * i) < 2 ^ (2 * k)) (sym (add-one i)) (sum_below 2 sum slot.number i r.low climb_digit);
        typed = subst (λ (k : ℕ). k < 2) kind (parent_kind_lt (x % 2) (y % 2) t (mod-lt x (lit< tt)) (mod-lt y (lit< tt)) r.typed);
        left =
            climbed_step triangle 2 binary l P sum i e more r.left
            ∙ ap₂ (λ (d : ℕ) (f : Triangle). sum + d * 2 ^ (2 * i) + 2 ^ (2 * (i + 1)) * position_at triangle (l - (i + 1)) f) number parent;
      }

pub climb_end : (e : Triangle) (sum i x y t : ℕ) → Known 21 e
    → Climbed (position_at triangle e.level (unit 21 e.level (e.x / side 21 e.level) (e.y / side 21 e.level) e.kind)) e.level sum i x y t
    → e.level ≤ i → sum ≡ position triangle e
unfolding triangle_to
climb_end e sum i x y t k r done =
    sym
    (ap (position_at triangle e.level) (unit_self 21 e k)
    ∙ climbed_end triangle 2 binary e.level _ sum i (unit 21 (e.level - i) x y t) done r.left)
