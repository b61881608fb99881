-- Faces 3 and 4 of a prism are the ends of its line, each with the whole triangle: the triangle is kept, and what is said of the face is the
-- line's. Assumes nothing.
use mathlib.Core.Path.{◌≡◌, refl, ap, ap₂, ◌∙◌, sym, subst⁻¹}
use mathlib.Core.List.{List, [], ◌∷◌, map}
use Prim.Native.Nat.{ℕ, ◌+◌, ◌-◌, ◌<◌}
use native.Mathlib.Omega.{arith}
use lib.ListN.{get_or}
use Rattle.paper.specs.Outcome.{Outcome, accepted, mapped}
use Rattle.tree.proofs.Cases.{below_2}
use Rattle.tree.specs.Laws.{Across}
use Rattle.tree.proofs.SameMembers.{alike}
use Rattle.tree.proofs.Faces.{mapped_led}
use Rattle.line.specs.declared.Line.{Line}
use Rattle.line.specs.Elements.{line_to}
use Rattle.line.specs.Lawful.{line_path}
use Rattle.line.proofs.Faces.{line_faces}
use Rattle.line.proofs.Faces as line_same
use Rattle.triangle.specs.declared.Triangle.{Triangle}
use Rattle.triangle.proofs.FacePoints.{triangle_told}
use Rattle.line.specs.Elements as line
use Rattle.line.specs.Points as line_points
use Rattle.triangle.specs.Points as triangle_points
use Rattle.prism.specs.declared.Prism.{Prism}
use Rattle.prism.specs.Elements.{prism_to, fault, neighbour, plan, upright, product}
use Rattle.prism.specs.Points.{Corner, lifted, face_points, face_across}
use Rattle.prism.specs.Lawful.{grids, triangle_sound, line_sound, joined_sound}
use Rattle.prism.proofs.SamePoints.{same_points}
use Rattle.prism.proofs.Around.{plans, height}

-- a triangle at one height
abbrev cap : ℕ → Triangle → ℕ → List Corner
cap L t z = map (lifted z) (triangle_points.corner L t 0 ∷ triangle_points.corner L t 1 ∷ triangle_points.corner L t 2 ∷ [])

module _ (L : ℕ) where
  abbrev pub along : Prism → ℕ → Outcome Prism
  along e i = mapped (λ (m : Line). product (plan e) m) (line.neighbour L (upright e) i)

  pub neighbour_along : (e : Prism) (i : ℕ) → i < 2 → neighbour L e (3 + i) ≡ along e i
  unfolding neighbour
  neighbour_along e = below_2 (λ (i : ℕ). neighbour L e (3 + i) ≡ along e i) refl refl

  along_opposite : (i : ℕ) → i < 2 → face_across (3 + i) ≡ 3 + (1 - i)
  along_opposite = below_2 (λ (i : ℕ). face_across (3 + i) ≡ 3 + (1 - i)) refl refl

  along_points : (e : Prism) (i : ℕ) → i < 2 → face_points L e (3 + i) ≡ cap L (plan e) (line_points.corner L (upright e) i)
  along_points e = below_2 (λ (i : ℕ). face_points L e (3 + i) ≡ cap L (plan e) (line_points.corner L (upright e) i)) refl refl

  module _ (e : Prism) (i : ℕ) (sound : fault L e ≡ 0) (small : i < 2) where
    module _ (m : Line) (a : Across (line_to L) (line_points.face_points L) (upright e) m i (1 - i)) where
      line_there : upright (product (plan e) m) ≡ m
      unfolding line_to
      line_there = line_path _ _ refl (sym a.level)

      pub along_across : Across (prism_to L) (face_points L) e (product (plan e) m) (3 + i) (face_across (3 + i))
      unfolding prism_to line_to
      along_across =
          let there = product (plan e) m in
          let one = line_same.same_points L (upright e) m i (1 - i) a.shared in
          record {
            sound = joined_sound L there (triangle_sound L e sound) (subst⁻¹ (λ (n : Line). line.fault L n ≡ 0) line_there a.sound);
            level = refl;
            face = omega (arith, along_opposite i small);
            shared =
                alike
                (along_points e i small
                ∙ ap (cap L (plan e)) (ap (λ (l : List ℕ). get_or l 0 0) one ∙ ap (λ (n : Line). line_points.corner L n (1 - i)) (sym line_there))
                ∙ sym (ap (face_points L there) (along_opposite i small) ∙ along_points there (1 - i) (omega arith)));
            other = λ same. a.other (ap upright same ∙ line_there);
          }

      pub along_back : line.neighbour L m (1 - i) ≡ accepted (upright e) → neighbour L (product (plan e) m) (face_across (3 + i)) ≡ accepted e
      along_back back =
          ap (neighbour L (product (plan e) m)) (along_opposite i small)
          ∙ neighbour_along (product (plan e) m) (1 - i) (omega arith)
          ∙ ap (λ (n : Line). mapped (λ (o : Line). product (plan e) o) (line.neighbour L n (1 - i))) line_there
          ∙ ap (mapped (λ (o : Line). product (plan e) o)) back

    -- whoever has the face has the same triangle, and its line has the line's face
    module _ (f : Prism) (j : ℕ) (face : j < 2) (a : Across (prism_to L) (face_points L) e f (3 + i) (3 + j)) where
      cap_shared : cap L (plan e) (line_points.corner L (upright e) i) ≡ cap L (plan f) (line_points.corner L (upright f) j)
      cap_shared =
          sym (along_points e i small) ∙ same_points L e f (3 + i) (3 + j) (omega arith) (omega arith) a.shared ∙ along_points f j face

      along_triangle : plan e ≡ plan f
      unfolding prism_to
      along_triangle =
          triangle_told L (plan e) (plan f) (grids L e sound).0 (grids L f a.sound).0 (sym a.level) (ap plans cap_shared)

      along_from : Across (line_to L) (line_points.face_points L) (upright e) (upright f) i j
      unfolding prism_to line_to
      along_from =
          record {
            sound = line_sound L f a.sound;
            level = a.level;
            face = face;
            shared = alike (ap (λ (cs : List Corner). height cs ∷ []) cap_shared);
            other = λ same. a.other (ap₂ product along_triangle same);
          }

      pub along_only : (neighbour L e (3 + i) ≡ accepted f) × (3 + j ≡ face_across (3 + i))
      unfolding line_to
      along_only =
          let there = (line_faces L).only (upright e) (upright f) i j (line_sound L e sound) small along_from in (
            neighbour_along e i small
                ∙ mapped_led (product (plan e)) (line.neighbour L (upright e) i) (upright f) f
                there.0
                (ap (λ (t : Triangle). product t (upright f)) along_triangle),
            ap (λ (k : ℕ). 3 + k) there.1 ∙ sym (along_opposite i small),
          )
