-- A triangle's neighbours, by the face rows: the row of the neighbour's own face leads back, and whoever has the face lies where the row leads
-- (`FacePoints.antt`); the rest is one coordinate's (`tree`'s), twice. Assumes nothing.
use mathlib.Core.Path.{◌≡◌, refl, ap, ap₂, ◌∙◌, sym, subst}
use mathlib.Core.Logic.{◌⊎◌, inl, inr}
use mathlib.Core.Bool.{Bool, true, false, not, ◌||◌}
use Prim.Native.Nat.{ℕ, ◌+◌, ◌-◌, ◌<◌}
use native.Mathlib.Nat.{eq_of_mul-eq-mul_right}
use native.Mathlib.Omega.{arith}
use borrow.Author.Tests.{not-false}
use Rattle.paper.specs.Outcome.{accepted}
use Rattle.paper.proofs.Tests.{or_none}
use Rattle.tree.specs.Anchors.{side, moved, off_edge}
use Rattle.tree.proofs.Anchor.{side_pos, grid_lt}
use Rattle.tree.specs.Laws.{Across, Faces}
use Rattle.tree.proofs.SameMembers.{alike}
use Rattle.tree.proofs.Faces.{either_way, when_accepted, when_led, move_far, move_reached, move_back, move_grid}
use Rattle.rows.specs.declared.Step.{Step}
use Rattle.triangle.specs.declared.Triangle.{Triangle}
use Rattle.rows.specs.Rows.{step, face_row}
use Rattle.triangle.specs.Elements.{triangle_to, inside_root, across_by, neighbour}
use Rattle.triangle.specs.Points.{face_points, face_across}
use Rattle.rows.proofs.Tables.{each_face, face_row_small}
use Rattle.triangle.specs.Lawful.{Known, known, sound, triangle_path}
use Rattle.triangle.proofs.FacePoints.{Agree, agree, meeting, meets, itself, slope, sloping, numbered}
use Rattle.triangle.proofs.SamePoints.{same_points}

-- ---- the face rows
-- turned round
turned : (t i : ℕ) → t < 2 → i < 3 → face_row (face_row t i).kind (2 - i) ≡ step (2 - (face_row t i).x) (2 - (face_row t i).y) t
turned =
    each_face (λ (t i : ℕ). face_row (face_row t i).kind (2 - i) ≡ step (2 - (face_row t i).x) (2 - (face_row t i).y) t) refl refl refl refl refl refl

-- they lead to the other type
other_type : (t i : ℕ) → t < 2 → i < 3 → t + (face_row t i).kind ≡ 1
other_type = each_face (λ (t i : ℕ). t + (face_row t i).kind ≡ 1) refl refl refl refl refl refl

-- ---- the step of a row
abbrev out : ℕ → Triangle → Step → Bool
out L e s =
    let h = side L e.level in
    off_edge L h s.x e.x || (off_edge L h s.y e.y || not (inside_root s.kind (moved h s.x e.x) (moved h s.y e.y)))

abbrev there : ℕ → Triangle → Step → Triangle
there L e s =
    let h = side L e.level in
    record { x = moved h s.x e.x; y = moved h s.y e.y; level = e.level; kind = s.kind }

-- it leads to what it reaches inside the root
module _ (L : ℕ) (e : Triangle) (s : Step) (x y : ℕ) where
  abbrev Reached : ℕ → ℕ → ℕ → Type 0
  Reached d from to = (off_edge L (side L e.level) d from ≡ false) × (moved (side L e.level) d from ≡ to)

  module _ (in_x : Reached s.x e.x x) (in_y : Reached s.y e.y y) where
    passes : inside_root s.kind x y ≡ true → out L e s ≡ false
    passes inside =
        ap₂ (λ (a b : Bool). a || (b || not (inside_root s.kind (there L e s).x (there L e s).y))) in_x.0 in_y.0
        ∙ ap₂ (λ (a b : ℕ). not (inside_root s.kind a b)) in_x.1 in_y.1
        ∙ ap not inside

    leads : inside_root s.kind x y ≡ true → across_by L e s ≡ accepted (record { x = x; y = y; level = e.level; kind = s.kind })
    leads inside = when_led (passes inside) (triangle_path _ _ in_x.1 in_y.1 refl refl)

module _ (L : ℕ) (e : Triangle) (i : ℕ) (k : Known L e) (small : i < 3) where
  abbrev row : Step
  row = face_row e.kind i

  abbrev to : Triangle
  to = there L e row

  abbrev width : ℕ
  width = side L e.level

  bounds : (row.x < 3) × ((row.y < 3) × (row.kind < 2))
  bounds = face_row_small e.kind i k.typed small

  module _ (within : out L e row ≡ false) where
    stays_x : off_edge L width row.x e.x ≡ false
    stays_x = (or_none (off_edge L width row.x e.x) _ within).0

    rest : (off_edge L width row.y e.y ≡ false) × (not (inside_root row.kind to.x to.y) ≡ false)
    rest = or_none (off_edge L width row.y e.y) _ (or_none (off_edge L width row.x e.x) _ within).1

    known_there : Known L to
    known_there =
        record {
          shallow = k.shallow;
          grid_x = move_grid L e.level row.x e.x k.grid_x stays_x;
          grid_y = move_grid L e.level row.y e.y k.grid_y rest.0;
          typed = bounds.1.1;
          inside = not-false (inside_root row.kind to.x to.y) rest.1;
        }

    across_there : Across (triangle_to L) (face_points L) e to i (face_across i)
    unfolding triangle_to
    across_there =
        record {
          sound = sound L to known_there;
          level = refl;
          face = omega arith;
          shared =
              alike
              (meeting L e.level e.x e.y to.x to.y e.kind i k.typed small
              (move_far L width row.x e.x stays_x)
              (move_far L width row.y e.y rest.0));
          other = λ same. omega (arith, ap (λ (g : Triangle). g.kind) same, other_type e.kind i k.typed small);
        }

    back_there : neighbour L to (face_across i) ≡ accepted e
    back_there =
        let back = step (2 - row.x) (2 - row.y) e.kind in
        let in_x = move_back L width row.x e.x bounds.0 (grid_lt L e.level e.x k.grid_x) stays_x in
        let in_y = move_back L width row.y e.y bounds.1.0 (grid_lt L e.level e.y k.grid_y) rest.0 in
        ap (across_by L to) (turned e.kind i k.typed small)
        ∙ leads L to back e.x e.y in_x in_y k.inside

  reached : (f : Triangle) (j : ℕ) → Across (triangle_to L) (face_points L) e f i j → (neighbour L e i ≡ accepted f) × (j ≡ face_across i)
  unfolding triangle_to
  reached f j a = by (numbered e.kind f.kind i j k.typed kf.typed small a.face same_slope)
    where
      kf : Known L f
      kf = known L f a.sound

      agreed : (t n : ℕ) → f.kind ≡ t → j ≡ n → Agree (face_points L e i) (face_points L (record { x = f.x; y = f.y; level = e.level; kind = t }) n)
      agreed t n same number =
          agree _ _ (same_points L e f i j a.shared ∙ ap₂ (face_points L) (triangle_path f _ refl refl a.level same) number)

      same_slope : slope e.kind i ≡ slope f.kind j
      same_slope =
          let here = sloping L e.level e.x e.y e.kind i k.typed small in
          let there = sloping L e.level f.x f.y f.kind j kf.typed a.face in
          let alike = agreed f.kind j refl refl in
          eq_of_mul-eq-mul_right (side L e.level) (side_pos L e.level) (slope e.kind i) (slope f.kind j) (omega arith)

      by : ((e.kind ≡ f.kind) × (j ≡ i)) ⊎ ((e.kind + f.kind ≡ 1) × (j ≡ 2 - i)) → (neighbour L e i ≡ accepted f) × (j ≡ face_across i)
      by (inl same) =
          let here = itself L e.level e.x e.y f.x f.y e.kind i k.typed small (agreed e.kind i (sym same.0) same.1) in
          absurd (a.other (triangle_path e f here.0 here.1 (sym a.level) same.0))
      by (inr turned) =
          let typed : f.kind ≡ row.kind = omega (arith, other_type e.kind i k.typed small, turned.0) in
          let far = meets L e.level e.x e.y f.x f.y e.kind i k.typed small (agreed row.kind (2 - i) typed turned.1) in (
            leads L e row f.x f.y
                (move_reached L width row.x e.x f.x far.0 (grid_lt L f.level f.x kf.grid_x))
                (move_reached L width row.y e.y f.y far.1 (grid_lt L f.level f.y kf.grid_y))
                (subst (λ (t : ℕ). inside_root t f.x f.y ≡ true) typed kf.inside)
                ∙ ap accepted (triangle_path _ f refl refl (sym a.level) (sym typed)),
            turned.1,
          )

pub triangle_faces : (L : ℕ) → Faces (triangle_to L) (face_points L) face_across
unfolding triangle_to
triangle_faces L =
    record {
      either = λ e i. either_way (out L e (face_row e.kind i)) _;
      across = λ e f i ok small.
          when_accepted (λ (g : Triangle). Across (triangle_to L) (face_points L) e g i (face_across i)) (out L e (face_row e.kind i)) _ f
          (across_there L e i (known L e ok) small);
      back = λ e f i ok small.
          when_accepted (λ (g : Triangle). neighbour L g (face_across i) ≡ accepted e) (out L e (face_row e.kind i)) _ f
          (back_there L e i (known L e ok) small);
      only = λ e f i j ok small. reached L e i (known L e ok) small f j;
    }
