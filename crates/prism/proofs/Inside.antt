-- What the last check means: it is the triangle's, after the checks on z, and a prism's corners lie in the root where its triangle's do, since
-- its line ends within the edge on any grid. Assumes nothing.
use mathlib.Core.Path.{◌≡◌, subst⁻¹}
use mathlib.Core.Logic.{◌↔◌, inl}
use mathlib.Core.Bool.{false, ◌||◌}
use Prim.Native.Nat.{ℕ, ◌+◌, ◌*◌, ◌/◌, ◌%◌, ◌^◌, ◌≤◌, ◌<◌}
use native.Mathlib.Nat.{mul-le-mul_right}
use native.Mathlib.Omega.{arith}
use lib.Dec.{ltb}
use borrow.Author.Tests.{le-ltb}
use Rattle.paper.proofs.Tests.{or_none}
use Rattle.tree.specs.Anchors.{side, off_grid}
use Rattle.tree.specs.Laws.{Sound}
use Rattle.tree.proofs.Anchor.{grid_lt, end_inside}
use Rattle.tree.proofs.Cases.{below_3}
use Rattle.line.specs.Lawful.{grid_sound}
use Rattle.triangle.specs.Elements.{triangle_to}
use Rattle.triangle.specs.Points as triangle
use Rattle.triangle.proofs.Inside.{fourth, fourth_is, NoneOr4, three_pass, outside, passed_grid, multiple_grid, grid_multiple}
use Rattle.triangle.proofs.Inside as triangle_inside
use Rattle.prism.specs.declared.Prism.{Prism}
use Rattle.prism.specs.Elements.{prism_to, fault, plan}
use Rattle.prism.specs.Points.{corner, InRoot, OnGrid, Refusal4}
use Rattle.prism.specs.Lawful.{triangle_sound, joined_sound}

module _ (L : ℕ) where
  -- none or one side further
  end_height : (z h n : ℕ) → n ≤ 1 → z + h ≤ 2 ^ L → z + n * h ≤ 2 ^ L
  end_height z h n once inside = omega (arith, mul-le-mul_right h once)

  grid_z : (e : Prism) → OnGrid L e → off_grid L e.level e.z ≡ false
  grid_z e g = multiple_grid L e.level e.z g.z_below g.z_multiple

  grid_fourth : (e : Prism) → OnGrid L e → fault L e ≡ fourth (outside (plan e))
  grid_fourth e g =
      let p = g.in_plan in
      simp (
        le-ltb L e.level p.shallow,
        multiple_grid L e.level e.x p.x_below p.x_multiple,
        multiple_grid L e.level e.y p.y_below p.y_multiple,
        grid_z e g,
        le-ltb 1 e.kind p.typed,
      )

  grid_of_lem : (e : Prism) → NoneOr4 (fault L e) → OnGrid L e
  grid_of_lem e n =
      let x_off = off_grid L e.level e.x in
      let y_off = off_grid L e.level e.y in
      let z_off = off_grid L e.level e.z in
      let pass = three_pass (ltb L e.level) (x_off || (y_off || z_off)) (ltb 1 e.kind) (outside (plan e)) n in
      let x_on = or_none x_off (y_off || z_off) pass.1.0 in
      let y_on = or_none y_off z_off x_on.1 in
      record {
        in_plan = passed_grid L (plan e) pass.0 x_on.0 y_on.0 pass.1.1;
        z_below = grid_lt L e.level e.z y_on.1;
        z_multiple = grid_multiple L e.level e.z y_on.1;
      }

  inside : (e : Prism) → OnGrid L e → fault L e ≡ 0 ↔ ((i : ℕ) → i < 6 → InRoot L (corner L e i))
  unfolding triangle_to
  inside e g =
      let of_triangle = (triangle_inside.refusal_4 L).inside (plan e) g.in_plan in
      let z_on = grid_z e g in
      let ends = end_inside L e.level e.z g.in_plan.shallow z_on in (
        λ sound i small.
            record {
              in_plan = of_triangle.0 (triangle_sound L e sound) (i % 3) (omega arith);
              upwards = end_height e.z (side L e.level) (i / 3) (omega arith) ends;
            },
        λ all.
            joined_sound L e
            (of_triangle.1
            (below_3 (λ (i : ℕ). triangle.InRoot L (triangle.corner L (plan e) i))
            (all 0 (omega arith)).in_plan (all 1 (omega arith)).in_plan (all 2 (omega arith)).in_plan))
            (grid_sound L e.level e.z g.in_plan.shallow z_on),
      )

  pub refusal_4 : Refusal4 L
  unfolding prism_to
  refusal_4 =
      record {
        on_grid = λ e. (λ g. subst⁻¹ NoneOr4 (grid_fourth e g) (fourth_is (outside (plan e))), grid_of_lem e);
        inside = inside;
      }

  -- so the corners of every sound element lie in the root
  pub corner_in_root : (e : Prism) (i : ℕ) → Sound (prism_to L) e → i < 6 → InRoot L (corner L e i)
  unfolding prism_to
  corner_in_root e i sound small = (inside e (grid_of_lem e (inl sound))).0 sound i small
