-- A prism's faces: 0 to 2 around it (`Around.antt`), 3 and 4 along its line (`Along.antt`). The first have four points and the others three, so
-- none is one of the other kind. Assumes nothing.
use mathlib.Core.Path.{◌≡◌, refl, ap, ◌∙◌, sym}
use mathlib.Core.Logic.{◌⊎◌}
use mathlib.Core.Bool.{Bool, true, false, cond}
use Prim.Native.Nat.{ℕ, ◌+◌, ◌-◌, ◌<◌}
use native.Mathlib.Omega.{arith}
use lib.Dec.{ltb}
use lib.ListN.{length}
use Rattle.paper.specs.Outcome.{accepted, refused}
use Rattle.tree.proofs.Cases.{below_2, below_3, below_5}
use Rattle.tree.specs.Laws.{Across, Faces}
use Rattle.tree.proofs.Faces.{mapped_either, mapped_accepted}
use Rattle.line.specs.declared.Line.{Line}
use Rattle.line.specs.Elements.{line_to}
use Rattle.line.proofs.Faces.{line_faces}
use Rattle.triangle.specs.declared.Triangle.{Triangle}
use Rattle.triangle.specs.Elements.{triangle_to}
use Rattle.triangle.proofs.Faces.{triangle_faces}
use Rattle.line.specs.Elements as line
use Rattle.line.specs.Points as line_points
use Rattle.triangle.specs.Elements as triangle
use Rattle.triangle.specs.Points as triangle_points
use Rattle.prism.specs.declared.Prism.{Prism}
use Rattle.prism.specs.Elements.{prism_to, fault, neighbour, plan, upright, product}
use Rattle.prism.specs.Points.{face_points, face_across}
use Rattle.prism.specs.Lawful.{triangle_sound, line_sound}
use Rattle.prism.proofs.SamePoints.{same_points}
use Rattle.prism.proofs.Around.{around, neighbour_around, around_across, around_back, around_only}
use Rattle.prism.proofs.Along.{along, neighbour_along, along_across, along_back, along_only}

module _ (L : ℕ) where
  -- a statement about the five faces, from its two parts
  each : (P : ℕ → Type 0) → ((i : ℕ) → i < 3 → P i) → ((i : ℕ) → i < 2 → P (3 + i)) → (i : ℕ) → i < 5 → P i
  each P low high = below_5 P (low 0 (omega arith)) (low 1 (omega arith)) (low 2 (omega arith)) (high 0 (omega arith)) (high 1 (omega arith))

  four : (e : Prism) (i : ℕ) → i < 3 → length (face_points L e i) ≡ 4
  four e = below_3 (λ (i : ℕ). length (face_points L e i) ≡ 4) refl refl refl

  three : (e : Prism) (i : ℕ) → i < 2 → length (face_points L e (3 + i)) ≡ 3
  three e = below_2 (λ (i : ℕ). length (face_points L e (3 + i)) ≡ 3) refl refl

  either : (e : Prism) (i : ℕ) → (neighbour L e i ≡ refused 10 0) ⊎ ((f : Prism) × (neighbour L e i ≡ accepted f))
  unfolding neighbour triangle_to line_to
  either e i = by (ltb i 3)
    where
      by : (t : Bool) → (cond t (around L e i) (along L e (i - 3)) ≡ refused 10 0) ⊎ ((f : Prism) × (cond t (around L e i) (along L e (i - 3)) ≡ accepted f))
      by true = mapped_either _ _ ((triangle_faces L).either (plan e) i)
      by false = mapped_either _ _ ((line_faces L).either (upright e) (i - 3))

  module _ (e : Prism) (sound : fault L e ≡ 0) where
    -- what holds of each that lies across and leads back, holds of the neighbour
    accepted_by : (Q : Prism → ℕ → Type 0)
        → ((i : ℕ) (small : i < 3) (t : Triangle)
        → (a : Across (triangle_to L) (triangle_points.face_points L) (plan e) t i (2 - i))
        → triangle.neighbour L t (2 - i) ≡ accepted (plan e) → Q (product t (upright e)) i)
        → ((i : ℕ) (small : i < 2) (m : Line)
        → (a : Across (line_to L) (line_points.face_points L) (upright e) m i (1 - i))
        → line.neighbour L m (1 - i) ≡ accepted (upright e) → Q (product (plan e) m) (3 + i))
        → (f : Prism) (i : ℕ) → i < 5 → neighbour L e i ≡ accepted f → Q f i
    unfolding triangle_to line_to
    accepted_by Q low high f =
        let in_plan = triangle_sound L e sound in
        let stands = line_sound L e sound in
        each (λ (i : ℕ). neighbour L e i ≡ accepted f → Q f i)
        (λ i small answer.
        mapped_accepted _ (λ (g : Prism). Q g i) (triangle.neighbour L (plan e) i) f
        (λ t here. low i small t ((triangle_faces L).across (plan e) t i in_plan small here) ((triangle_faces L).back (plan e) t i in_plan small here))
        (sym (neighbour_around L e i small) ∙ answer))
        (λ i small answer.
        mapped_accepted _ (λ (g : Prism). Q g (3 + i)) (line.neighbour L (upright e) i) f
        (λ m here. high i small m ((line_faces L).across (upright e) m i stands small here) ((line_faces L).back (upright e) m i stands small here))
        (sym (neighbour_along L e i small) ∙ answer))

    across : (f : Prism) (i : ℕ) → i < 5 → neighbour L e i ≡ accepted f → Across (prism_to L) (face_points L) e f i (face_across i)
    across =
        accepted_by (λ (f : Prism) (i : ℕ). Across (prism_to L) (face_points L) e f i (face_across i))
        (λ i small t a turned. around_across L e i sound small t a)
        (λ i small m a turned. along_across L e i sound small m a)

    back : (f : Prism) (i : ℕ) → i < 5 → neighbour L e i ≡ accepted f → neighbour L f (face_across i) ≡ accepted e
    back =
        accepted_by (λ (f : Prism) (i : ℕ). neighbour L f (face_across i) ≡ accepted e)
        (λ i small t a turned. around_back L e i sound small t a turned)
        (λ i small m a turned. along_back L e i sound small m a turned)

    abbrev Only : Prism → ℕ → ℕ → Type 0
    Only f i j = Across (prism_to L) (face_points L) e f i j → (neighbour L e i ≡ accepted f) × (j ≡ face_across i)

    -- a shared face has as many points
    long : (f : Prism) (i j : ℕ) → i < 5 → j < 5 → Across (prism_to L) (face_points L) e f i j → length (face_points L e i) ≡ length (face_points L f j)
    long f i j small face a = ap length (same_points L e f i j small face a.shared)

    only : (f : Prism) (i j : ℕ) → i < 5 → j < 5 → Only f i j
    only f i j small face =
        each (λ (k : ℕ). Only f k j)
        (λ k low.
        each (Only f k)
        (λ n less. around_only L e k sound low f n less)
        (λ n less a. absurd (omega (arith, four e k low, three f n less, long f k (3 + n) (omega arith) (omega arith) a)))
        j face)
        (λ k low.
        each (Only f (3 + k))
        (λ n less a. absurd (omega (arith, three e k low, four f n less, long f (3 + k) n (omega arith) (omega arith) a)))
        (λ n less. along_only L e k sound low f n less)
        j face)
        i small

pub prism_faces : (L : ℕ) → Faces (prism_to L) (face_points L) face_across
unfolding prism_to
prism_faces L =
    record {
      either = either L;
      across = λ e f i sound. across L e sound f i;
      back = λ e f i sound. back L e sound f i;
      only = λ e f i j sound small a. only L e sound f i j small a.face a;
    }
