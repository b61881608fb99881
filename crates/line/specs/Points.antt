-- Document 01, "Elements": the corner points of a line, and which of them lie in a face. Definitions only.
--
--   corners L e        x and x+h
--   corner L e i       corner i of them
--   face_points L e i  the corner points of face i: face 0, towards x-h, is corner 0, and face 1, towards x+h, is corner 1
--   faces L e          its two ends
--   face_across i      the number of that face as the neighbour has it
--
-- Assumes nothing.
use Rattle.std.specs.Prelude.{List, [], ◌∷◌, ℕ, ◌+◌, ◌-◌, ◌*◌}
use Rattle.tree.specs.Anchors.{side}
use Rattle.line.specs.declared.Line.{Line}

abbrev pub corner : ℕ → Line → ℕ → ℕ
corner L e i = e.x + i * side L e.level

abbrev pub corners : ℕ → Line → List ℕ
corners L e = e.x ∷ (e.x + side L e.level) ∷ []

abbrev pub face_points : ℕ → Line → ℕ → List ℕ
face_points L e i = corner L e i ∷ []

abbrev pub faces : ℕ → Line → List (List ℕ)
faces L e = (e.x ∷ []) ∷ ((e.x + side L e.level) ∷ []) ∷ []

abbrev pub face_across : ℕ → ℕ
face_across i = 1 - i
