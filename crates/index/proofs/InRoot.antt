-- The page of a prism ends with type 0 exactly where the prism lies in the root: in sides of a level that is v + t ≤ u, which one step up keeps, both
-- ways, and at level 0, where u and v are 0, it says that the type is 0. Assumes nothing.
use mathlib.Core.Path.{◌≡◌, refl, sym, subst}
use mathlib.Core.Logic.{◌↔◌, inl, inr}
use mathlib.Core.Bool.{Bool, true, false, cond}
use Prim.Native.Nat.{ℕ, zero, suc, ◌+◌, ◌*◌, ◌/◌, ◌%◌, ◌^◌, ◌≤◌, ◌<◌}
use native.Mathlib.Nat.{mod-lt, pow-suc}
use native.Mathlib.Omega.{arith}
use lib.Dec.{eqb, lit<}
use borrow.Author.Tests.{eqb-true, eqb-false}
use Rattle.tree.specs.Anchors.{side, off_grid}
use Rattle.tree.specs.Laws.{Sound}
use Rattle.tree.proofs.Anchor.{side_pos, grid_units, units_lt}
use Rattle.rows.specs.declared.Step.{Step}
use Rattle.rows.specs.Rows.{step, parent_kind, number_of}
use Rattle.rows.proofs.Tables.{parent_kind_lt, number_of_lt, child_row_slot, child_inside, parent_inside}
use Rattle.rows.proofs.Siblings.{by_rule}
use Rattle.line.specs.Lawful.{grid_sound}
use Rattle.triangle.specs.Lawful.{units_inside, known_units}
use Rattle.triangle.proofs.Inside.{multiple_grid}
use Rattle.triangle.specs.Lawful as triangle_laws
use Rattle.prism.specs.declared.Prism.{Prism}
use Rattle.prism.specs.Elements.{prism_to, plan}
use Rattle.prism.specs.Points.{OnGrid}
use Rattle.prism.proofs.Inside.{refusal_4}
use Rattle.prism.specs.Lawful.{grids, joined_sound}
use Rattle.index.specs.Pencil.{type_above, page, page_of, at_root}

module _ (x y t : ℕ) (x_bit : x < 2) (y_bit : y < 2) (typed : t < 2) where
  -- the type above is the parent's
  pub type_above_lem : type_above x y t ≡ parent_kind (step x y t)
  type_above_lem = decide (eqb x y) refl
    where
      decide : (b : Bool) → eqb x y ≡ b → cond b t y ≡ parent_kind (step x y t)
      decide true e = sym (by_rule.bits_agree (step x y t) (record { x_bit = x_bit; y_bit = y_bit; type = typed }) (eqb-true x y e))
      decide false e = sym (by_rule.bits_differ (step x y t) (record { x_bit = x_bit; y_bit = y_bit; type = typed }) (eqb-false x y e))

  above_lt : type_above x y t < 2
  above_lt = rw type_above_lem (parent_kind_lt x y t x_bit y_bit typed)

  -- one step up, in sides, and down again to the place in the parent's row
  inside_up : (u v : ℕ) → (2 * v + y + t ≤ 2 * u + x) ↔ (v + type_above x y t ≤ u)
  inside_up u v = (
    λ h. rw type_above_lem (parent_inside u v x y t x_bit y_bit typed h),
    λ h.
        subst (λ (s : Step). 2 * v + s.y + s.kind ≤ 2 * u + s.x) (child_row_slot x y t x_bit y_bit typed)
        (child_inside u v (parent_kind (step x y t)) (number_of (step x y t)) (parent_kind_lt x y t x_bit y_bit typed) (number_of_lt x y t x_bit y_bit typed)
        (subst (λ (k : ℕ). v + k ≤ u) type_above_lem h)),
  )

-- what the page of u, v and w sides ends with: type 0 or 1, and 0 exactly inside the root
record Ends (l u v w t : ℕ) : Type 0 where
  low : at_root t (page l u v w t) < 2
  inside : (v + t ≤ u) ↔ (at_root t (page l u v w t) ≡ 0)

ends : (l u v w t : ℕ) → u < 2 ^ l → v < 2 ^ l → t < 2 → Ends l u v w t
unfolding page at_root
ends zero u v w t u_below v_below typed = record { low = typed; inside = (λ h. omega arith, λ h. omega arith) }
ends (suc l) u v w t u_below v_below typed =
    let small_x : u % 2 < 2 = mod-lt u (lit< tt) in
    let small_y : v % 2 < 2 = mod-lt v (lit< tt) in
    let wider = pow-suc 2 l in
    let up = inside_up (u % 2) (v % 2) t small_x small_y typed (u / 2) (v / 2) in
    let rest = ends l (u / 2) (v / 2) (w / 2) (type_above (u % 2) (v % 2) t) (omega arith) (omega arith) (above_lt (u % 2) (v % 2) t small_x small_y typed) in
    record {
      low = rest.low;
      inside = (
        λ h. rest.inside.0 (up.0 (omega arith)),
        λ root. omega (arith, up.1 (rest.inside.1 root)),
      );
    }

module _ (L : ℕ) (e : Prism) (g : OnGrid L e) where
  abbrev h : ℕ
  h = side L e.level

  typed : e.kind < 2
  typed = omega (arith, g.in_plan.typed)

  grid_x : off_grid L e.level e.x ≡ false
  grid_x = multiple_grid L e.level e.x g.in_plan.x_below g.in_plan.x_multiple

  grid_y : off_grid L e.level e.y ≡ false
  grid_y = multiple_grid L e.level e.y g.in_plan.y_below g.in_plan.y_multiple

  page_ends : Ends e.level (e.x / h) (e.y / h) (e.z / h) e.kind
  page_ends =
      ends e.level (e.x / h) (e.y / h) (e.z / h) e.kind
      (units_lt L e.level e.x g.in_plan.shallow grid_x) (units_lt L e.level e.y g.in_plan.shallow grid_y) typed

  root_sound : at_root e.kind (page_of L e) ≡ 0 → Sound (prism_to L) e
  unfolding prism_to
  root_sound root =
      joined_sound L e
      (triangle_laws.sound L (plan e)
      (record {
        shallow = g.in_plan.shallow;
        grid_x = grid_x;
        grid_y = grid_y;
        typed = typed;
        inside =
            rw (sym (grid_units L e.level e.x grid_x), sym (grid_units L e.level e.y grid_y))
            (units_inside e.kind h (e.x / h) (e.y / h) typed (side_pos L e.level) (page_ends.inside.1 root));
      }))
      (grid_sound L e.level e.z g.in_plan.shallow (multiple_grid L e.level e.z g.z_below g.z_multiple))

pub ends_0 : (L : ℕ) (e : Prism) → Sound (prism_to L) e → at_root e.kind (page_of L e) ≡ 0
unfolding prism_to
ends_0 L e sound = (page_ends L e (((refusal_4 L).on_grid e).1 (inl sound))).inside.0 (known_units L (plan e) (grids L e sound).0)

pub ends_1 : (L : ℕ) (e : Prism) → (prism_to L).fault e ≡ 4 → at_root e.kind (page_of L e) ≡ 1
ends_1 L e outside =
    let g = ((refusal_4 L).on_grid e).1 (inr outside) in
    let not_0 : at_root e.kind (page_of L e) ≡ 0 → ⊥ = λ root. absurd (omega (arith, root_sound L e g root)) in
    omega (arith, (page_ends L e g).low)
