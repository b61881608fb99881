-- The prism's neighbour in one step, as the code takes it: the rows follow the triangle on faces 0 to 2 and the line on 3 and 4, and a
-- coordinate that stays neither leaves the edge nor moves. Assumes nothing.
use mathlib.Core.Path.{◌≡◌, refl, ap, ap₂, ◌∙◌, sym, subst}
use mathlib.Core.Logic.{◌⊎◌, inl, inr, ⊎_elim}
use mathlib.Core.Bool.{Bool, true, false, not, ◌||◌}
use Prim.Native.Nat.{ℕ, ◌+◌, ◌-◌, ◌*◌, ◌≤◌, ◌<◌}
use native.Mathlib.Decide.{dec_lt}
use native.Mathlib.Omega.{arith}
use borrow.Author.Tests.{lt-ltb, le-ltb}
use Rattle.paper.specs.Outcome.{Outcome, accepted, refused, mapped, refuse_when}
use Rattle.tree.specs.Anchors.{side, moved, off_edge}
use Rattle.tree.proofs.Anchor.{grid_lt}
use Rattle.tree.proofs.Move.{still, still_stays}
use Rattle.tree.proofs.Cases.{below_2, below_3}
use Rattle.line.specs.declared.Line.{Line}
use Rattle.triangle.specs.declared.Triangle.{Triangle}
use Rattle.rows.specs.Rows.{face_row}
use Rattle.triangle.specs.Elements.{inside_root}
use Rattle.triangle.specs.Lawful.{Known}
use Rattle.line.specs.Elements as line
use Rattle.rows.specs.declared.PrismStep.{PrismStep}
use Rattle.prism.specs.declared.Prism.{Prism}
use Rattle.rows.specs.Rows.{prism_step, prism_face_row}
use Rattle.prism.specs.Elements.{fault, neighbour, plan, upright, product}
use Rattle.prism.specs.Lawful.{grids}

-- ---- the rows
side_plan : (t i : ℕ) → t < 2 → i < 3 → prism_face_row t i ≡ prism_step (face_row t i).x (face_row t i).y 1 (face_row t i).kind
side_plan t i kind small =
    below_2 (λ (k : ℕ). prism_face_row k i ≡ prism_step (face_row k i).x (face_row k i).y 1 (face_row k i).kind)
    (below_3 (λ (j : ℕ). prism_face_row 0 j ≡ prism_step (face_row 0 j).x (face_row 0 j).y 1 (face_row 0 j).kind) refl refl refl i small)
    (below_3 (λ (j : ℕ). prism_face_row 1 j ≡ prism_step (face_row 1 j).x (face_row 1 j).y 1 (face_row 1 j).kind) refl refl refl i small)
    t kind

side_upright : (t i : ℕ) → t < 2 → i < 2 → prism_face_row t (3 + i) ≡ prism_step 1 1 (2 * i) t
side_upright t i kind small =
    below_2 (λ (k : ℕ). prism_face_row k (3 + i) ≡ prism_step 1 1 (2 * i) k)
    (below_2 (λ (j : ℕ). prism_face_row 0 (3 + j) ≡ prism_step 1 1 (2 * j) 0) refl refl i small)
    (below_2 (λ (j : ℕ). prism_face_row 1 (3 + j) ≡ prism_step 1 1 (2 * j) 1) refl refl i small)
    t kind

-- ---- the step of a row; h is the side
abbrev out : Prism → PrismStep → ℕ → Bool
out e s h =
    off_edge 21 h s.x e.x
    || (off_edge 21 h s.y e.y
    || (off_edge 21 h s.z e.z || not (inside_root s.kind (moved h s.x e.x) (moved h s.y e.y))))

abbrev there : Prism → PrismStep → ℕ → Prism
there e s h = record { x = moved h s.x e.x; y = moved h s.y e.y; z = moved h s.z e.z; level = e.level; kind = s.kind }

abbrev pub across_by : Prism → PrismStep → Outcome Prism
across_by e s = refuse_when (out e s (side 21 e.level)) 10 (accepted (there e s (side 21 e.level)))

mapped_refuse : {A B : Type 0} (g : A → B) (t : Bool) (a : A) → mapped g (refuse_when t 10 (accepted a)) ≡ refuse_when t 10 (accepted (g a))
mapped_refuse g true a = refl
mapped_refuse g false a = refl

or_last : (a : Bool) → (a || false) ≡ a
or_last true = refl
or_last false = refl

-- ---- it is the neighbour
module _ (e : Prism) (sound : fault 21 e ≡ 0) where
  k : Known 21 (plan e)
  k = (grids 21 e sound).0

  h : ℕ
  h = side 21 e.level

  by_plan : (i : ℕ) → i < 3 → neighbour 21 e i ≡ across_by e (prism_face_row e.kind i)
  unfolding neighbour h
  by_plan i small =
      let f = face_row e.kind i in
      let s = prism_step f.x f.y 1 f.kind in
      let rest = not (inside_root f.kind (moved h f.x e.x) (moved h f.y e.y)) in
      let stays = still_stays 21 h e.z (grid_lt 21 e.level e.z (grids 21 e sound).1) in
      simp (lt-ltb i 3 small)
      (mapped_refuse (λ (t : Triangle). product t (upright e)) (off_edge 21 h f.x e.x || (off_edge 21 h f.y e.y || rest)) (record { x = moved h f.x e.x; y = moved h f.y e.y; level = e.level; kind = f.kind })
      ∙ ap₂ (λ (t : Bool) (z : ℕ). refuse_when (off_edge 21 h f.x e.x || (off_edge 21 h f.y e.y || t)) 10 (accepted (record { x = moved h f.x e.x; y = moved h f.y e.y; z = z; level = e.level; kind = f.kind })))
      (sym (ap (λ (m : Bool). m || rest) stays))
      (sym (still h e.z))
      ∙ ap (across_by e) (sym (side_plan e.kind i k.typed small)))

  by_upright : (i : ℕ) → i < 2 → neighbour 21 e (3 + i) ≡ across_by e (prism_face_row e.kind (3 + i))
  unfolding neighbour h
  by_upright i small =
      let m = 2 * i in
      let same : 3 + i - 3 ≡ i = omega arith in
      let stays_x = still_stays 21 h e.x (grid_lt 21 e.level e.x k.grid_x) in
      let stays_y = still_stays 21 h e.y (grid_lt 21 e.level e.y k.grid_y) in
      let inside : not (inside_root e.kind (moved h 1 e.x) (moved h 1 e.y)) ≡ false =
      ap₂ (λ (a b : ℕ). not (inside_root e.kind a b)) (still h e.x) (still h e.y) ∙ ap not k.inside in
      let test : out e (prism_step 1 1 m e.kind) h ≡ off_edge 21 h m e.z =
      ap₂ (λ (a b : Bool). a || (b || (off_edge 21 h m e.z || not (inside_root e.kind (moved h 1 e.x) (moved h 1 e.y))))) stays_x stays_y
      ∙ ap (λ (t : Bool). off_edge 21 h m e.z || t) inside
      ∙ or_last (off_edge 21 h m e.z) in
      let here : there e (prism_step 1 1 m e.kind) h ≡ product (plan e) (record { x = moved h m e.z; level = e.level }) =
      λ j. record { x = still h e.x j; y = still h e.y j; z = moved h m e.z; level = e.level; kind = e.kind } in
      simp (le-ltb (3 + i) 3 (omega arith))
      (ap (λ (n : ℕ). mapped (λ (l : Line). product (plan e) l) (line.neighbour 21 (upright e) n)) same
      ∙ mapped_refuse (λ (l : Line). product (plan e) l) (off_edge 21 h m e.z) (record { x = moved h m e.z; level = e.level })
      ∙ sym (ap₂ (λ (t : Bool) (f : Prism). refuse_when t 10 (accepted f)) test here)
      ∙ ap (across_by e) (sym (side_upright e.kind i k.typed small)))

  pub neighbour_by : (i : ℕ) → i < 5 → neighbour 21 e i ≡ across_by e (prism_face_row e.kind i)
  neighbour_by i small = ⊎_elim (by_plan i) beyond (split i)
    where
      split : (n : ℕ) → (n < 3) ⊎ (3 ≤ n)
      split n = decide (dec_lt n 3)
        where
          decide : Dec (n < 3) → (n < 3) ⊎ (3 ≤ n)
          decide (yes low) = inl low
          decide (no high) = inr (omega arith)

      beyond : 3 ≤ i → neighbour 21 e i ≡ across_by e (prism_face_row e.kind i)
      beyond large =
          let again : 3 + (i - 3) ≡ i = omega arith in
          subst (λ (n : ℕ). neighbour 21 e n ≡ across_by e (prism_face_row e.kind n)) again (by_upright (i - 3) (omega arith))

-- ---- the code's ways out. s is the row; w is the side, as the code has it
module _ (e : Prism) (s : PrismStep) (w : ℕ) (sized : w ≡ side 21 e.level) where
  across_is : refuse_when (out e s w) 10 (accepted (there e s w)) ≡ across_by e s
  across_is = ap (λ (n : ℕ). refuse_when (out e s n) 10 (accepted (there e s n))) sized

  pub gone_x : off_edge 21 w s.x e.x ≡ true → refused 10 0 ≡ across_by e s
  gone_x gone = sym (simp gone) ∙ across_is

  -- x, y and z are the moved coordinates, as the code has them
  module _ (x : ℕ) (at_x : (off_edge 21 w s.x e.x ≡ false) × (x ≡ moved w s.x e.x)) where
    pub gone_y : off_edge 21 w s.y e.y ≡ true → refused 10 0 ≡ across_by e s
    gone_y gone = sym (simp (at_x.0, gone)) ∙ across_is

    module _ (y : ℕ) (at_y : (off_edge 21 w s.y e.y ≡ false) × (y ≡ moved w s.y e.y)) where
      pub gone_z : off_edge 21 w s.z e.z ≡ true → refused 10 0 ≡ across_by e s
      gone_z gone = sym (simp (at_x.0, at_y.0, gone)) ∙ across_is

      module _ (z : ℕ) (at_z : (off_edge 21 w s.z e.z ≡ false) × (z ≡ moved w s.z e.z)) where
        -- the test of the root, at the moved coordinates
        placed : (t : Bool) → not (inside_root s.kind x y) ≡ t → not (inside_root s.kind (moved w s.x e.x) (moved w s.y e.y)) ≡ t
        placed t test = ap₂ (λ (a b : ℕ). not (inside_root s.kind a b)) (sym at_x.1) (sym at_y.1) ∙ test

        pub beyond_root : not (inside_root s.kind x y) ≡ true → refused 10 0 ≡ across_by e s
        beyond_root outside = sym (simp (at_x.0, at_y.0, at_z.0, placed true outside)) ∙ across_is

        pub within_root : not (inside_root s.kind x y) ≡ false → accepted (record { x = x; y = y; z = z; level = e.level; kind = s.kind }) ≡ across_by e s
        within_root inside =
            ap accepted (λ j. record { x = at_x.1 j; y = at_y.1 j; z = at_z.1 j; level = e.level; kind = s.kind })
            ∙ sym (simp (at_x.0, at_y.0, at_z.0, placed false inside))
            ∙ across_is
