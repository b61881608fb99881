-- What the code of a shape states of it. Definitions only.
--
--   States S bits children faces corners   the highest level is 21, a child's number has so many bits, and the constants are the shape's
--   Same S equal                           two elements are equal in the code exactly where they are the same
--
-- Assumes nothing.
use Rattle.std.specs.Prelude.{◌≡◌, Bool, ℕ, ◌*◌, ◌^◌, ◌≤◌}
use Rattle.tree.specs.Anchors.{HIGHEST}
use Rattle.tree.specs.Shape.{Shape}

pub record States {E : Type 0} (S : Shape E) (bits children faces corners : ℕ) : Type 0 where
  pub highest : S.highest ≡ HIGHEST
  pub by_bits : S.children ≡ 2 ^ bits
  pub in_a_word : bits * HIGHEST ≤ 63
  pub children_are : children ≡ S.children
  pub faces_are : faces ≡ S.faces
  pub corners_are : corners ≡ S.corners

abbrev pub Same : {E : Type 0} → Shape E → (E → E → Bool) → Type 0
Same {E} S equal = (e f : E) → equal e f ≡ S.same e f
