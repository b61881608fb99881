-- How an outcome goes over the C interface: a word for the refusal, and the value beside it. Definitions only.
--
--   word o         0 when accepted, else place·256 + number; a place is taken modulo 2^56, so that the word always holds it (no lent
--                  column has as many entries)
--   value_or z o   the value, z on a refusal
--   Told z o w v   w is the word of o, and v its value, z on a refusal
--   pass_result    of a call with no value: the word alone
--   line_result, triangle_result, prism_result, number_result, truth_result, compare_result, point_result
--                  what the call with the outcome o returns: on a refusal every field of the value is 0
--   grid_result    the same for a grid that was read: its roots and the number of its leaves
--   sign_of o      less is -1, same 0, greater 1
--
-- Assumes nothing.
use Rattle.std.specs.Prelude.{◌≡◌, Bool, true, false, ℕ, ◌+◌, ◌*◌, ◌%◌, ◌^◌, ℤ, pos, negsuc}
use Rattle.std.specs.Float.{fin}
use Rattle.paper.specs.Outcome.{Outcome, accepted, refused, Order, less, same, greater}
use Rattle.line.specs.declared.Line.{Line}
use Rattle.triangle.specs.declared.Triangle.{Triangle}
use Rattle.prism.specs.declared.Prism.{Prism}
use Rattle.corners.specs.declared.Point.{Point}
use Rattle.reader.specs.Answers.{Size, size}
use Rattle.results.specs.declared.LineResult.{LineResult}
use Rattle.results.specs.declared.TriangleResult.{TriangleResult}
use Rattle.results.specs.declared.PrismResult.{PrismResult}
use Rattle.results.specs.declared.NumberResult.{NumberResult}
use Rattle.results.specs.declared.CompareResult.{CompareResult}
use Rattle.results.specs.declared.PointResult.{PointResult}
use Rattle.results.specs.declared.GridResult.{GridResult}

abbrev pub word : {A : Type 0} → Outcome A → ℕ
word (accepted a) = 0
word (refused number place) = place % 2 ^ 56 * 256 + number

abbrev pub value_or : {A : Type 0} → A → Outcome A → A
value_or nothing (accepted a) = a
value_or nothing (refused number place) = nothing

pub record Told {A : Type 0} (nothing : A) (o : Outcome A) (w : ℕ) (v : A) : Type 0 where
  pub word_is : w ≡ word o
  pub value_is : v ≡ value_or nothing o

unfoldable pub line_result : Outcome Line → LineResult
line_result o = record { refusal = word o; value = value_or (record { x = 0; level = 0 }) o }

unfoldable pub triangle_result : Outcome Triangle → TriangleResult
triangle_result o = record { refusal = word o; value = value_or (record { x = 0; y = 0; level = 0; kind = 0 }) o }

unfoldable pub prism_result : Outcome Prism → PrismResult
prism_result o = record { refusal = word o; value = value_or (record { x = 0; y = 0; z = 0; level = 0; kind = 0 }) o }

unfoldable pub number_result : Outcome ℕ → NumberResult
number_result o = record { refusal = word o; value = value_or 0 o }

abbrev pub one_if : Bool → ℕ
one_if true = 1
one_if false = 0

unfoldable pub truth_result : Outcome Bool → NumberResult
truth_result o = record { refusal = word o; value = one_if (value_or false o) }

abbrev pub sign_of : Order → ℤ
sign_of less = negsuc 0
sign_of same = pos 0
sign_of greater = pos 1

unfoldable pub compare_result : Outcome Order → CompareResult
compare_result o = record { refusal = word o; value = sign_of (value_or same o) }

unfoldable pub pass_result : Outcome (Unit {0}) → ℕ
pass_result o = word o

unfoldable pub grid_result : Outcome Size → GridResult
grid_result o = record { refusal = word o; roots = (value_or (size 0 0) o).roots; leaves = (value_or (size 0 0) o).leaves }

-- a coordinate 0 is +0
unfoldable pub point_result : Outcome Point → PointResult
point_result o =
    let zero = fin false 0 (pos 0) in
    record { refusal = word o; value = value_or (record { x = zero; y = zero; z = zero }) o }
