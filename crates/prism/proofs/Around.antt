-- Faces 0 to 2 of a prism are those of its triangle, each lifted to both ends of its line: the line is kept, and what is said of the face is
-- the triangle's. Assumes nothing.
use mathlib.Core.Path.{◌≡◌, refl, ap, ap₂, ◌∙◌, sym, subst⁻¹}
use mathlib.Core.List.{List, [], ◌∷◌, ◌++◌, map}
use Prim.Native.Nat.{ℕ, zero, suc, ◌-◌, ◌<◌}
use native.Mathlib.Omega.{arith}
use lib.ListN.{get_or}
use Rattle.paper.specs.Outcome.{Outcome, accepted, mapped}
use Rattle.tree.proofs.Cases.{below_3}
use Rattle.tree.specs.Laws.{Across}
use Rattle.tree.proofs.SameMembers.{alike}
use Rattle.tree.proofs.Faces.{mapped_led}
use Rattle.line.specs.declared.Line.{Line}
use Rattle.line.specs.Lawful.{line_path}
use Rattle.triangle.specs.declared.Triangle.{Triangle}
use Rattle.triangle.specs.Elements.{triangle_to}
use Rattle.triangle.specs.Points.{Point, point}
use Rattle.triangle.proofs.SamePoints as triangle_same
use Rattle.triangle.proofs.Faces.{triangle_faces}
use Rattle.line.specs.Elements as line
use Rattle.line.specs.Points as line_points
use Rattle.triangle.specs.Elements as triangle
use Rattle.triangle.specs.Points as triangle_points
use Rattle.prism.specs.declared.Prism.{Prism}
use Rattle.prism.specs.Elements.{prism_to, fault, neighbour, plan, upright, product}
use Rattle.prism.specs.Points.{Corner, lifted, face_points, face_across}
use Rattle.prism.specs.Lawful.{triangle_sound, line_sound, joined_sound}
use Rattle.prism.proofs.SamePoints.{same_points}

-- ---- the corner points
-- points of the ground plan at both ends of a line
abbrev walls : ℕ → Line → List Point → List Corner
walls L m ps = map (lifted (line_points.corner L m 0)) ps ++ map (lifted (line_points.corner L m 1)) ps

abbrev nowhere : Corner
nowhere = lifted 0 (point 0 0)

-- the ground plan of the first two, and the height of the first
abbrev pub plans : List Corner → List Point
plans cs = (get_or cs 0 nowhere).plan ∷ (get_or cs 1 nowhere).plan ∷ []

abbrev pub height : List Corner → ℕ
height cs = (get_or cs 0 nowhere).height

plans_back : (L : ℕ) (m : Line) (t : Triangle) (i : ℕ) → plans (walls L m (triangle_points.face_points L t i)) ≡ triangle_points.face_points L t i
plans_back L m t zero = refl
plans_back L m t (suc zero) = refl
plans_back L m t (suc (suc i)) = refl

height_back : (L : ℕ) (m : Line) (t : Triangle) (i : ℕ) → height (walls L m (triangle_points.face_points L t i)) ≡ line_points.corner L m 0
height_back L m t zero = refl
height_back L m t (suc zero) = refl
height_back L m t (suc (suc i)) = refl

module _ (L : ℕ) where
  abbrev pub around : Prism → ℕ → Outcome Prism
  around e i = mapped (λ (t : Triangle). product t (upright e)) (triangle.neighbour L (plan e) i)

  pub neighbour_around : (e : Prism) (i : ℕ) → i < 3 → neighbour L e i ≡ around e i
  unfolding neighbour
  neighbour_around e = below_3 (λ (i : ℕ). neighbour L e i ≡ around e i) refl refl refl

  around_opposite : (i : ℕ) → i < 3 → face_across i ≡ 2 - i
  around_opposite = below_3 (λ (i : ℕ). face_across i ≡ 2 - i) refl refl refl

  around_points : (e : Prism) (i : ℕ) → i < 3 → face_points L e i ≡ walls L (upright e) (triangle_points.face_points L (plan e) i)
  around_points e =
      below_3 (λ (i : ℕ). face_points L e i ≡ walls L (upright e) (triangle_points.face_points L (plan e) i)) refl refl refl

  module _ (e : Prism) (i : ℕ) (sound : fault L e ≡ 0) (small : i < 3) where
    module _ (t : Triangle) (a : Across (triangle_to L) (triangle_points.face_points L) (plan e) t i (2 - i)) where
      line_kept : upright (product t (upright e)) ≡ upright e
      unfolding triangle_to
      line_kept = line_path _ _ refl a.level

      pub around_across : Across (prism_to L) (face_points L) e (product t (upright e)) i (face_across i)
      unfolding prism_to triangle_to
      around_across =
          let there = product t (upright e) in
          record {
            sound = joined_sound L there a.sound (subst⁻¹ (λ (m : Line). line.fault L m ≡ 0) line_kept (line_sound L e sound));
            level = a.level;
            face = omega (arith, around_opposite i small);
            shared =
                alike
                (around_points e i small
                ∙ ap₂ (walls L) (sym line_kept) (triangle_same.same_points L (plan e) t i (2 - i) a.shared)
                ∙ sym (ap (face_points L there) (around_opposite i small) ∙ around_points there (2 - i) (omega arith)));
            other = λ same. a.other (ap plan same);
          }

      pub around_back : triangle.neighbour L t (2 - i) ≡ accepted (plan e) → neighbour L (product t (upright e)) (face_across i) ≡ accepted e
      around_back back =
          ap (neighbour L (product t (upright e))) (around_opposite i small)
          ∙ neighbour_around (product t (upright e)) (2 - i) (omega arith)
          ∙ ap₂ (λ (m : Line) (o : Outcome Triangle). mapped (λ (s : Triangle). product s m) o) line_kept back

    -- whoever has the face has the same line, and its triangle has the triangle's face
    module _ (f : Prism) (j : ℕ) (face : j < 3) (a : Across (prism_to L) (face_points L) e f i j) where
      walls_shared : walls L (upright e) (triangle_points.face_points L (plan e) i) ≡ walls L (upright f) (triangle_points.face_points L (plan f) j)
      walls_shared =
          sym (around_points e i small) ∙ same_points L e f i j (omega arith) (omega arith) a.shared ∙ around_points f j face

      around_line : upright e ≡ upright f
      unfolding prism_to
      around_line =
          let heights : line_points.corner L (upright e) 0 ≡ line_points.corner L (upright f) 0 =
          sym (height_back L (upright e) (plan e) i) ∙ ap height walls_shared ∙ height_back L (upright f) (plan f) j in
          line_path (upright e) (upright f) (omega arith) (sym a.level)

      around_from : Across (triangle_to L) (triangle_points.face_points L) (plan e) (plan f) i j
      unfolding prism_to triangle_to
      around_from =
          record {
            sound = triangle_sound L f a.sound;
            level = a.level;
            face = face;
            shared = alike (sym (plans_back L (upright e) (plan e) i) ∙ ap plans walls_shared ∙ plans_back L (upright f) (plan f) j);
            other = λ same. a.other (ap₂ product same around_line);
          }

      pub around_only : (neighbour L e i ≡ accepted f) × (j ≡ face_across i)
      unfolding triangle_to
      around_only =
          let there = (triangle_faces L).only (plan e) (plan f) i j (triangle_sound L e sound) small around_from in (
            neighbour_around e i small
                ∙ mapped_led (λ (t : Triangle). product t (upright e)) (triangle.neighbour L (plan e) i) (plan f) f
                there.0
                (ap (product (plan f)) around_line),
            there.1 ∙ sym (around_opposite i small),
          )
