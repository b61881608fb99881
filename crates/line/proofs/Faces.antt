-- A line's face is one point, and the move across it is one coordinate's (`tree`'s): the end that the two share is where the one begins and
-- the other ends. Assumes nothing.
use mathlib.Core.Path.{◌≡◌, refl, ap, ◌∙◌, sym, subst⁻¹}
use mathlib.Core.Logic.{◌⊎◌, inl, inr}
use mathlib.Core.Bool.{false}
use mathlib.Core.List.{List, [], ◌∷◌}
use Prim.Native.Nat.{ℕ, ◌+◌, ◌-◌, ◌*◌, ◌<◌}
use native.Mathlib.Nat.{ℕ_set}
use native.Mathlib.Decide.{ℕ_discrete}
use native.Mathlib.Omega.{arith}
use lib.ListN.{get_or}
use Rattle.paper.specs.Outcome.{accepted}
use Rattle.tree.specs.Anchors.{side, moved, off_edge}
use Rattle.tree.proofs.Anchor.{side_pos, grid_lt}
use Rattle.tree.proofs.Cases.{below_2}
use Rattle.tree.specs.Laws.{Across, Faces}
use Rattle.tree.proofs.SameMembers.{Alike, alike, same_list}
use Rattle.tree.proofs.Faces.{either_way, when_accepted, when_led, move_far, move_reached, move_back, move_grid}
use Rattle.line.specs.declared.Line.{Line}
use Rattle.line.specs.Elements.{line_to, fault, neighbour}
use Rattle.line.specs.Points.{corner, face_points, face_across}
use Rattle.line.specs.Lawful.{line_path, sound_level, sound_grid, grid_sound}

-- ---- the lines from x and from y, of length h, meet in face i of the first
module _ (x y h : ℕ) where
  meeting : (i : ℕ) → i < 2 → y + h ≡ x + 2 * i * h → x + i * h ≡ y + (1 - i) * h
  meeting = below_2 (λ (i : ℕ). y + h ≡ x + 2 * i * h → x + i * h ≡ y + (1 - i) * h) (λ far. omega arith) (λ far. omega arith)

  meets : (i : ℕ) → i < 2 → x + i * h ≡ y + (1 - i) * h → y + h ≡ x + 2 * i * h
  meets = below_2 (λ (i : ℕ). x + i * h ≡ y + (1 - i) * h → y + h ≡ x + 2 * i * h) (λ shared. omega arith) (λ shared. omega arith)

-- its own two faces are not one
ends_differ : (L : ℕ) (e : Line) (i : ℕ) → i < 2 → corner L e i ≡ corner L e (face_across i) → ⊥
ends_differ L e =
    let positive = side_pos L e.level in
    below_2 (λ (i : ℕ). corner L e i ≡ corner L e (face_across i) → ⊥) (λ same. omega arith) (λ same. omega arith)

pub same_points : (L : ℕ) (e f : Line) (i j : ℕ) → Alike (face_points L e i) (face_points L f j) → face_points L e i ≡ face_points L f j
same_points L e f i j = same_list ℕ_set (λ (k : ℕ). k) (face_points L e i) (face_points L f j) (omega arith) (omega arith)

-- a face has the same number in two lines only where they begin together
numbered : (x y h i j : ℕ) → i < 2 → j < 2 → x + i * h ≡ y + j * h → (x ≡ y) ⊎ (j ≡ 1 - i)
numbered x y h i j small face shared = by (ℕ_discrete i j)
  where
    by : Dec (i ≡ j) → (x ≡ y) ⊎ (j ≡ 1 - i)
    by (yes same) = inl (omega (arith, ap (λ (k : ℕ). k * h) same))
    by (no differ) = inr (omega arith)

-- a move by s sides stays and leads from e to f
abbrev Led : ℕ → Line → Line → ℕ → Type 0
Led L e f s = (off_edge L (side L e.level) s e.x ≡ false) × (moved (side L e.level) s e.x ≡ f.x)

leads : (L : ℕ) (e f : Line) (i : ℕ) → e.level ≡ f.level → Led L e f (2 * i) → neighbour L e i ≡ accepted f
leads L e f i level led = when_led led.0 (line_path _ f led.1 level)

module _ (L : ℕ) (e : Line) (i : ℕ) (sound : fault L e ≡ 0) (small : i < 2) where
  abbrev h : ℕ
  h = side L e.level

  abbrev there : Line
  there = record { x = moved h (2 * i) e.x; level = e.level }

  module _ (stays : off_edge L h (2 * i) e.x ≡ false) where
    met : corner L e i ≡ corner L there (face_across i)
    met = meeting e.x there.x h i small (move_far L h (2 * i) e.x stays)

    across_there : Across (line_to L) (face_points L) e there i (face_across i)
    unfolding line_to
    across_there =
        record {
          sound =
              grid_sound L e.level there.x (sound_level L e.level e.x sound)
              (move_grid L e.level (2 * i) e.x (sound_grid L e.level e.x sound) stays);
          level = refl;
          face = omega arith;
          shared = alike (ap (λ (k : ℕ). k ∷ []) met);
          other = λ same. ends_differ L e i small (met ∙ ap (λ (g : Line). corner L g (face_across i)) (sym same));
        }

    back_there : neighbour L there (face_across i) ≡ accepted e
    back_there =
        let turned : 2 * (1 - i) ≡ 2 - 2 * i = omega arith in
        let back = move_back L h (2 * i) e.x (omega arith) (grid_lt L e.level e.x (sound_grid L e.level e.x sound)) stays in
        leads L there e (1 - i) refl (subst⁻¹ (Led L there e) turned back)

  reached : (f : Line) (j : ℕ) → Across (line_to L) (face_points L) e f i j → (neighbour L e i ≡ accepted f) × (j ≡ face_across i)
  unfolding line_to
  reached f j a = by (numbered e.x f.x h i j small a.face (shared j one))
    where
      one : face_points L e i ≡ face_points L f j
      one = same_points L e f i j a.shared

      shared : (k : ℕ) → face_points L e i ≡ face_points L f k → e.x + i * h ≡ f.x + k * h
      shared k same = ap (λ (l : List ℕ). get_or l 0 0) same ∙ ap (λ (m : ℕ). f.x + k * side L m) a.level

      by : (e.x ≡ f.x) ⊎ (j ≡ 1 - i) → (neighbour L e i ≡ accepted f) × (j ≡ face_across i)
      by (inl begin) = absurd (a.other (line_path e f begin (sym a.level)))
      by (inr turned) =
          let far = meets e.x f.x h i small (shared (1 - i) (one ∙ ap (face_points L f) turned)) in
          let below = grid_lt L f.level f.x (sound_grid L f.level f.x a.sound) in
          (leads L e f i (sym a.level) (move_reached L h (2 * i) e.x f.x far below), turned)

pub line_faces : (L : ℕ) → Faces (line_to L) (face_points L) face_across
unfolding line_to
line_faces L =
    record {
      either = λ e i. either_way (off_edge L (side L e.level) (2 * i) e.x) _;
      across = λ e f i sound small.
          when_accepted (λ (g : Line). Across (line_to L) (face_points L) e g i (face_across i)) (off_edge L (side L e.level) (2 * i) e.x) _ f
          (across_there L e i sound small);
      back = λ e f i sound small.
          when_accepted (λ (g : Line). neighbour L g (face_across i) ≡ accepted e) (off_edge L (side L e.level) (2 * i) e.x) _ f
          (back_there L e i sound small);
      only = λ e f i j sound small. reached L e i sound small f j;
    }
