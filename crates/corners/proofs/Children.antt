-- A corner of a child, from the parent: two steps of none or one side of the child, the child's from the parent's anchor and the corner's from
-- its own, stay within the parent's side; a digit has both. Assumes nothing.
use mathlib.Core.Path.{◌≡◌, refl, sym, ap, ◌∙◌, subst⁻¹}
use Prim.Native.Nat.{ℕ, zero, suc, ◌+◌, ◌*◌, ◌/◌, ◌%◌, ◌^◌, ◌≤◌, ◌<◌}
use native.Mathlib.Nat.{add-mul, mod-lt}
use native.Mathlib.Numerals.{add-one}
use native.Mathlib.Omega.{arith}
use lib.Dec.{lit<, lit≤}
use Rattle.tree.specs.Anchors.{side}
use Rattle.tree.proofs.Anchor.{side_suc}
use Rattle.rows.specs.Rows.{child_row}
use Rattle.rows.proofs.Tables.{each_child}
use Rattle.triangle.specs.Points.{Point, point}
use Rattle.prism.specs.declared.Prism.{Prism}
use Rattle.prism.specs.Elements.{prism, prism_to}
use Rattle.prism.specs.Points.{lifted}
use Rattle.prism.specs.Points as prisms
use Rattle.prism.specs.Lawful.{lawful}
use Rattle.prism.proofs.Inside.{corner_in_root}
use Rattle.corners.specs.declared.child.Section.{Section}
use Rattle.corners.specs.Steps.{digit_of}
use Rattle.corners.specs.Inner.{CornerRow, AtChild}
use Rattle.corners.proofs.LocalCorners.{room, Spans, spans, corner_row, found}

-- ---- the digits: child n of a parent of type t, its corner c
record StepTo (t n c d : ℕ) : Type 0 where
  sides : ℕ
  its_sides : CornerRow (child_row t n).kind c sides
  along_x : d / 4 ≡ (child_row t n).x + sides / 2
  along_y : d % 4 ≡ (child_row t n).y + sides % 2
  few_x : d / 4 ≤ 2
  few_y : d % 4 ≤ 2

step : {t n c d : ℕ} (s : ℕ) → CornerRow (child_row t n).kind c s → d / 4 ≡ (child_row t n).x + s / 2 → d % 4 ≡ (child_row t n).y + s % 2 → d / 4 ≤ 2 → d % 4 ≤ 2
    → StepTo t n c d
step s row x y few_x few_y = record { sides = s; its_sides = row; along_x = x; along_y = y; few_x = few_x; few_y = few_y }

step_to_lem : (c : ℕ) → c < 3 → (t n : ℕ) → t < 2 → n < 4 → StepTo t n c (digit_of c t n)
step_to_lem zero few =
    each_child (λ t n. StepTo t n 0 (digit_of 0 t n))
    (step 0 (corner_row 0 0 (lit< tt) (lit< tt)) refl refl (lit≤ tt) (lit≤ tt)) (step 0 (corner_row 0 0 (lit< tt) (lit< tt)) refl refl (lit≤ tt) (lit≤ tt))
    (step 0 (corner_row 1 0 (lit< tt) (lit< tt)) refl refl (lit≤ tt) (lit≤ tt)) (step 0 (corner_row 0 0 (lit< tt) (lit< tt)) refl refl (lit≤ tt) (lit≤ tt))
    (step 0 (corner_row 1 0 (lit< tt) (lit< tt)) refl refl (lit≤ tt) (lit≤ tt)) (step 0 (corner_row 0 0 (lit< tt) (lit< tt)) refl refl (lit≤ tt) (lit≤ tt))
    (step 0 (corner_row 1 0 (lit< tt) (lit< tt)) refl refl (lit≤ tt) (lit≤ tt)) (step 0 (corner_row 1 0 (lit< tt) (lit< tt)) refl refl (lit≤ tt) (lit≤ tt))
step_to_lem (suc zero) few =
    each_child (λ t n. StepTo t n 1 (digit_of 1 t n))
    (step 2 (corner_row 0 1 (lit< tt) (lit< tt)) refl refl (lit≤ tt) (lit≤ tt)) (step 2 (corner_row 0 1 (lit< tt) (lit< tt)) refl refl (lit≤ tt) (lit≤ tt))
    (step 1 (corner_row 1 1 (lit< tt) (lit< tt)) refl refl (lit≤ tt) (lit≤ tt)) (step 2 (corner_row 0 1 (lit< tt) (lit< tt)) refl refl (lit≤ tt) (lit≤ tt))
    (step 1 (corner_row 1 1 (lit< tt) (lit< tt)) refl refl (lit≤ tt) (lit≤ tt)) (step 2 (corner_row 0 1 (lit< tt) (lit< tt)) refl refl (lit≤ tt) (lit≤ tt))
    (step 1 (corner_row 1 1 (lit< tt) (lit< tt)) refl refl (lit≤ tt) (lit≤ tt)) (step 1 (corner_row 1 1 (lit< tt) (lit< tt)) refl refl (lit≤ tt) (lit≤ tt))
step_to_lem (suc (suc zero)) few =
    each_child (λ t n. StepTo t n 2 (digit_of 2 t n))
    (step 3 (corner_row 0 2 (lit< tt) (lit< tt)) refl refl (lit≤ tt) (lit≤ tt)) (step 3 (corner_row 0 2 (lit< tt) (lit< tt)) refl refl (lit≤ tt) (lit≤ tt))
    (step 3 (corner_row 1 2 (lit< tt) (lit< tt)) refl refl (lit≤ tt) (lit≤ tt)) (step 3 (corner_row 0 2 (lit< tt) (lit< tt)) refl refl (lit≤ tt) (lit≤ tt))
    (step 3 (corner_row 1 2 (lit< tt) (lit< tt)) refl refl (lit≤ tt) (lit≤ tt)) (step 3 (corner_row 0 2 (lit< tt) (lit< tt)) refl refl (lit≤ tt) (lit≤ tt))
    (step 3 (corner_row 1 2 (lit< tt) (lit< tt)) refl refl (lit≤ tt) (lit≤ tt)) (step 3 (corner_row 1 2 (lit< tt) (lit< tt)) refl refl (lit≤ tt) (lit≤ tt))
step_to_lem (suc (suc (suc c))) few = absurd (omega arith)

-- what the code adds up is that digit: a corner of a triangle lies in one place
one_place : {t c s u : ℕ} → CornerRow t c s → CornerRow t c u → (s / 2 ≡ u / 2) × (s % 2 ≡ u % 2)
one_place {t} {c} {s} {u} a b =
    let same = sym (a.placed 1 0 0) ∙ b.placed 1 0 0 in
    let along_x : 0 + s / 2 * 1 ≡ 0 + u / 2 * 1 = ap (λ (p : Point). p.x) same in
    let along_y : 0 + s % 2 * 1 ≡ 0 + u % 2 * 1 = ap (λ (p : Point). p.y) same in
    (omega (arith, along_x), omega (arith, along_y))

pub digit_is : (c t n s : ℕ) → c < 3 → t < 2 → n < 4 → CornerRow (child_row t n).kind c s → 4 * ((child_row t n).x + s / 2) + ((child_row t n).y + s % 2) ≡ digit_of c t n
digit_is c t n s few_c few_t few_n row =
    let d = step_to_lem c few_c t n few_t few_n in
    let same = one_place row d.its_sides in
    omega (arith, d.along_x, d.along_y, same.0, same.1)

-- ---- the corner
abbrev local : ℕ → ℕ → ℕ → prisms.Corner
local x y z = lifted z (point x y)

shared : (x a b d h : ℕ) → d ≡ a + b → x + d * h ≡ x + a * h + b * h
shared x a b d h is = ap (λ (k : ℕ). x + k * h) is ∙ omega (arith, add-mul a b h)

below : (e : Prism) (n i h d : ℕ) → h ≡ side 21 (e.level + 1) → StepTo e.kind (n % 4) (i % 3) d
    → local (e.x + d / 4 * h) (e.y + d % 4 * h) (e.z + (n / 4 + i / 3) * h) ≡ prisms.corner 21 (prism.child e n) i
unfolding prism_to
below e n i h d same s =
    let sized : h ≡ side 21 (suc e.level) = same ∙ ap (side 21) (add-one e.level) in
    let row = child_row e.kind (n % 4) in
    let child : ℕ → Prism = λ m. record { x = e.x + row.x * m; y = e.y + row.y * m; z = e.z + n / 4 * m; level = suc e.level; kind = row.kind } in
    let parts : local (e.x + d / 4 * h) (e.y + d % 4 * h) (e.z + (n / 4 + i / 3) * h)
    ≡ local ((child h).x + s.sides / 2 * h) ((child h).y + s.sides % 2 * h) ((child h).z + i / 3 * h) =
    λ k. local
    (shared e.x row.x (s.sides / 2) (d / 4) h s.along_x k)
    (shared e.y row.y (s.sides % 2) (d % 4) h s.along_y k)
    (shared e.z (n / 4) (i / 3) (n / 4 + i / 3) h refl k) in
    parts ∙ found (child h) i h s.sides sized s.its_sides ∙ ap (λ (m : ℕ). prisms.corner 21 (child m) i) sized

-- ---- as the code has it
module _ (s : Section) (e : Prism) (n : ℕ) (a : AtChild s e n) where
  abbrev d : ℕ
  d = s.steps / 2 ^ (16 * e.kind + 4 * (n % 4)) % 16

  sized : s.side ≡ side 21 (e.level + 1)
  sized = s.its_side ∙ ap (side 21) a.below

  pub two_types : e.kind < 2
  two_types = (room e a.sound).two_types

  steps_are : StepTo e.kind (n % 4) (s.corner % 3) d
  steps_are =
      subst⁻¹ (λ (w : ℕ). StepTo e.kind (n % 4) (s.corner % 3) (w / 2 ^ (16 * e.kind + 4 * (n % 4)) % 16)) s.its_steps
      (step_to_lem (s.corner % 3) (mod-lt s.corner (lit< tt)) e.kind (n % 4) two_types (mod-lt n (lit< tt)))

  -- two sides are one of the parent's
  doubled : 2 * s.side ≡ side 21 e.level
  doubled = ap (λ (h : ℕ). 2 * h) (sized ∙ ap (side 21) (add-one e.level)) ∙ sym (side_suc 21 e.level a.above)

  pub in_reach : Spans e s.side (d / 4) (d % 4) (n / 4 + s.corner / 3)
  in_reach =
      spans e 2 s.side (d / 4) (d % 4) (n / 4 + s.corner / 3) doubled a.sound steps_are.few_x steps_are.few_y
      (omega (arith, a.child, s.numbered))

  pub is_corner : local (e.x + d / 4 * s.side) (e.y + d % 4 * s.side) (e.z + (n / 4 + s.corner / 3) * s.side)
      ≡ prisms.corner 21 (prism.child e n) s.corner
  is_corner = below e n s.corner s.side d sized steps_are

  -- a child is sound, so its corners lie in the root
  pub in_root : prisms.InRoot 21 (local (e.x + d / 4 * s.side) (e.y + d % 4 * s.side) (e.z + (n / 4 + s.corner / 3) * s.side))
  unfolding prism_to
  in_root =
      subst⁻¹ (prisms.InRoot 21) is_corner
      (corner_in_root 21 (prism.child e n) s.corner ((lawful 21).child_sound e n a.sound a.above a.child) s.numbered)
