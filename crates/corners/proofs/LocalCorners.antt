-- The corner of an element as the code finds it: none or one side from the anchor in each coordinate, by type and number. The anchor lies
-- within the root with a side to spare. Assumes nothing.
use mathlib.Core.Path.{◌≡◌, sym, ap, ap₂, ◌∙◌, subst⁻¹}
use mathlib.Core.List.{List, [], ◌∷◌}
use Prim.Native.Nat.{ℕ, zero, suc, ◌+◌, ◌*◌, ◌/◌, ◌%◌, ◌^◌, ◌≤◌, ◌<◌}
use native.Mathlib.Nat.{mul-le-mul_right}
use native.Mathlib.Omega.{arith}
use lib.Dec.{lit≤}
use lib.ListN.{get_or}
use Rattle.tree.specs.Anchors.{side}
use Rattle.tree.specs.Laws.{Sound}
use Rattle.tree.proofs.Anchor.{end_inside}
use Rattle.triangle.specs.Points.{Point, point, corners_by}
use Rattle.triangle.proofs.Inside.{known_sides}
use Rattle.prism.specs.declared.Prism.{Prism}
use Rattle.prism.specs.Elements.{prism, prism_to, plan}
use Rattle.prism.specs.Points.{lifted}
use Rattle.prism.specs.Points as prisms
use Rattle.prism.specs.Lawful.{grids}
use Rattle.corners.specs.Inner.{CornerRow}

-- what the checks on an element leave room for
pub record Room (e : Prism) (h : ℕ) : Type 0 where
  pub two_types : e.kind < 2
  pub below : e.y + e.kind * h ≤ e.x
  pub room_x : e.x + h ≤ 2 ^ 21
  pub room_z : e.z + h ≤ 2 ^ 21

pub room : (e : Prism) → Sound prism e → Room e (side 21 e.level)
unfolding prism_to
room e sound =
    let known = grids 21 e sound in
    let below = known.0 in
    record {
      two_types = below.typed;
      below = known_sides 21 (plan e) below;
      room_x = end_inside 21 e.level e.x below.shallow below.grid_x;
      room_z = end_inside 21 e.level e.z below.shallow known.1;
    }

-- the same with the side that the code found
pub room_at : (e : Prism) (h : ℕ) → h ≡ side 21 e.level → Sound prism e → Room e h
room_at e h same sound = subst⁻¹ (Room e) same (room e sound)

-- so many sides further, a, b and c: still within the edge
pub record Spans (e : Prism) (h a b c : ℕ) : Type 0 where
  pub step_x : a * h ≤ 2 ^ 21
  pub step_y : b * h ≤ 2 ^ 21
  pub step_z : c * h ≤ 2 ^ 21
  pub to_x : e.x + a * h ≤ 2 ^ 21
  pub to_y : e.y + b * h ≤ 2 ^ 21
  pub to_z : e.z + c * h ≤ 2 ^ 21

-- up to k sides, where k of them are the element's own
few_sides : (k n h a : ℕ) → n ≤ k → a + k * h ≤ 2 ^ 21 → a + n * h ≤ 2 ^ 21
few_sides k n h a few inside = omega (arith, mul-le-mul_right h few)

pub spans : (e : Prism) (k h a b c : ℕ) → k * h ≡ side 21 e.level → Sound prism e → a ≤ k → b ≤ k → c ≤ k → Spans e h a b c
spans e k h a b c whole sound few_a few_b few_c =
    let r = room_at e (k * h) whole sound in
    let far_x = few_sides k a h e.x few_a r.room_x in
    let far_y = few_sides k b h e.y few_b (omega (arith, r.room_x, r.below)) in
    let far_z = few_sides k c h e.z few_c r.room_z in
    record { step_x = omega arith; step_y = omega arith; step_z = omega arith; to_x = far_x; to_y = far_y; to_z = far_z }

-- none or one side, as the code has them
pub reached : (e : Prism) (corner : ℕ) {h s : ℕ} → h ≡ side 21 e.level → Sound prism e × (corner < 6) → s ≤ 3 → Spans e h (s / 2) (s % 2) (corner / 3)
reached e corner {h} is (sound, numbered) narrow = spans e 1 h _ _ _ (omega (arith, is)) sound (omega (arith, narrow)) (omega arith) (omega (arith, numbered))

-- ---- the corner of a triangle by type and number
abbrev plan_at : ℕ → ℕ → ℕ → ℕ → ℕ → Point
plan_at t k h x y = get_or (corners_by t h x y) k (point 0 0)

-- the two rows of three that the code reads
abbrev rows : List (List ℕ)
rows = (0 ∷ 2 ∷ 3 ∷ []) ∷ (0 ∷ 1 ∷ 3 ∷ []) ∷ []

placed_by : (t k : ℕ) → t < 2 → k < 3 → (h x y : ℕ)
    → plan_at t k h x y ≡ point (x + get_or (get_or rows t []) k 0 / 2 * h) (y + get_or (get_or rows t []) k 0 % 2 * h)
placed_by zero zero a b h x y = ap₂ point (omega arith) (omega arith)
placed_by zero (suc zero) a b h x y = ap₂ point (omega arith) (omega arith)
placed_by zero (suc (suc zero)) a b h x y = ap₂ point (omega arith) (omega arith)
placed_by zero (suc (suc (suc k))) a b h x y = absurd (omega arith)
placed_by (suc zero) zero a b h x y = ap₂ point (omega arith) (omega arith)
placed_by (suc zero) (suc zero) a b h x y = ap₂ point (omega arith) (omega arith)
placed_by (suc zero) (suc (suc zero)) a b h x y = ap₂ point (omega arith) (omega arith)
placed_by (suc zero) (suc (suc (suc k))) a b h x y = absurd (omega arith)
placed_by (suc (suc t)) k a b h x y = absurd (omega arith)

narrow_by : (t k : ℕ) → t < 2 → k < 3 → get_or (get_or rows t []) k 0 ≤ 3
narrow_by zero zero a b = lit≤ tt
narrow_by zero (suc zero) a b = lit≤ tt
narrow_by zero (suc (suc zero)) a b = lit≤ tt
narrow_by zero (suc (suc (suc k))) a b = absurd (omega arith)
narrow_by (suc zero) zero a b = lit≤ tt
narrow_by (suc zero) (suc zero) a b = lit≤ tt
narrow_by (suc zero) (suc (suc zero)) a b = lit≤ tt
narrow_by (suc zero) (suc (suc (suc k))) a b = absurd (omega arith)
narrow_by (suc (suc t)) k a b = absurd (omega arith)

pub corner_row : (t k : ℕ) → t < 2 → k < 3 → CornerRow t k (get_or (get_or rows t []) k 0)
corner_row t k a b = record { narrow = narrow_by t k a b; placed = placed_by t k a b }

-- ---- as a local corner
pub found : (e : Prism) (i h s : ℕ) → h ≡ side 21 e.level → CornerRow e.kind (i % 3) s
    → lifted (e.z + i / 3 * h) (point (e.x + s / 2 * h) (e.y + s % 2 * h)) ≡ prisms.corner 21 e i
found e i h s same row =
    let at_h : (k : ℕ) → point (e.x + s / 2 * k) (e.y + s % 2 * k) ≡ plan_at e.kind (i % 3) k e.x e.y =
    λ k. sym (row.placed k e.x e.y) in
    ap (lifted (e.z + i / 3 * h)) (at_h h) ∙ ap (λ (k : ℕ). lifted (e.z + i / 3 * k) (plan_at e.kind (i % 3) k e.x e.y)) same
