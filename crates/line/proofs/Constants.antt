-- A line's two corners and two faces, counted: its ends are a side apart. Assumes nothing.
use mathlib.Core.Path.{◌≡◌, ap₂}
use mathlib.Core.List.{List, [], ◌∷◌}
use Prim.Native.Nat.{ℕ, ◌+◌, ◌*◌}
use native.Mathlib.Omega.{arith}
use lib.ListN.{get_or}
use Rattle.tree.specs.Anchors.{side}
use Rattle.tree.specs.Laws.{Constants}
use Rattle.tree.proofs.Anchor.{side_pos}
use Rattle.tree.proofs.Apart.{once}
use Rattle.line.specs.Elements.{line_to}
use Rattle.line.specs.Points.{corner, corners, face_points, faces}

-- an end as the corner of its number
pub lower : (x h : ℕ) → x ≡ x + 0 * h
lower x h = omega arith

pub upper : (x h : ℕ) → x + h ≡ x + 1 * h
upper x h = omega arith

pub constants : (L : ℕ) → Constants (line_to L) (corner L) (corners L) (face_points L) (faces L)
unfolding line_to
constants L =
    record {
      corners_are = λ e.
          let h = side L e.level in
          ap₂ (λ (a b : ℕ). a ∷ b ∷ []) (lower e.x h) (upper e.x h);
      corners_apart = λ e.
          let positive = side_pos L e.level in
          once (λ (k : ℕ). k) (corners L e) (omega arith);
      faces_are = λ e.
          let h = side L e.level in
          ap₂ (λ (a b : ℕ). (a ∷ []) ∷ (b ∷ []) ∷ []) (lower e.x h) (upper e.x h);
      faces_apart = λ e.
          let positive = side_pos L e.level in
          once (λ (l : List ℕ). get_or l 0 0) (faces L e) (omega arith);
    }
