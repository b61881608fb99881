-- What is promised of the results over C, as statements. Definitions only.
--
--   Kind R        a kind of result: its word, and the result of a word whose every other field is 0
--   lines, triangles, prisms, numbers, comparisons, points, grids, words
--                 the kinds; words: of a call with no value, the word alone
--   Word o w      w is a word for the outcome o: 0 exactly when it is accepted; a refusal's number is read back by % 256, and its place, where it is
--                 below 2^56, by / 256
--   Shown         what the result of an accepted outcome holds: its value; yes is 1 and no is 0; less is -1 (negsuc 0), same 0, greater 1
--
-- Assumes nothing.
use Rattle.std.specs.Prelude.{◌≡◌, ◌↔◌, true, false, ℕ, ◌/◌, ◌%◌, ◌^◌, ◌<◌, pos, negsuc}
use Rattle.std.specs.Float.{fin}
use Rattle.paper.specs.Outcome.{Outcome, accepted, refused, less, same, greater}
use Rattle.line.specs.declared.Line.{Line}
use Rattle.triangle.specs.declared.Triangle.{Triangle}
use Rattle.prism.specs.declared.Prism.{Prism}
use Rattle.corners.specs.declared.Point.{Point}
use Rattle.reader.specs.Answers.{size}
use Rattle.results.specs.declared.LineResult.{LineResult}
use Rattle.results.specs.declared.TriangleResult.{TriangleResult}
use Rattle.results.specs.declared.PrismResult.{PrismResult}
use Rattle.results.specs.declared.NumberResult.{NumberResult}
use Rattle.results.specs.declared.CompareResult.{CompareResult}
use Rattle.results.specs.declared.PointResult.{PointResult}
use Rattle.results.specs.declared.GridResult.{GridResult}
use Rattle.results.specs.Results.{line_result, triangle_result, prism_result, number_result, truth_result, compare_result, grid_result, point_result}

pub record Kind (R : Type 0) : Type 0 where
  pub refusal : R → ℕ
  pub blank : ℕ → R

abbrev pub lines : Kind LineResult
lines = record { refusal = λ r. r.refusal; blank = λ w. record { refusal = w; value = record { x = 0; level = 0 } } }

abbrev pub triangles : Kind TriangleResult
triangles = record { refusal = λ r. r.refusal; blank = λ w. record { refusal = w; value = record { x = 0; y = 0; level = 0; kind = 0 } } }

abbrev pub prisms : Kind PrismResult
prisms = record { refusal = λ r. r.refusal; blank = λ w. record { refusal = w; value = record { x = 0; y = 0; z = 0; level = 0; kind = 0 } } }

abbrev pub numbers : Kind NumberResult
numbers = record { refusal = λ r. r.refusal; blank = λ w. record { refusal = w; value = 0 } }

abbrev pub comparisons : Kind CompareResult
comparisons = record { refusal = λ r. r.refusal; blank = λ w. record { refusal = w; value = pos 0 } }

-- a coordinate 0 is +0
abbrev pub points : Kind PointResult
points =
    let zero = fin false 0 (pos 0) in
    record { refusal = λ r. r.refusal; blank = λ w. record { refusal = w; value = record { x = zero; y = zero; z = zero } } }

abbrev pub grids : Kind GridResult
grids = record { refusal = λ r. r.refusal; blank = λ w. record { refusal = w; roots = 0; leaves = 0 } }

abbrev pub words : Kind ℕ
words = record { refusal = λ r. r; blank = λ w. w }

pub record Word {A : Type 0} (o : Outcome A) (w : ℕ) : Type 0 where
  pub accepts : w ≡ 0 ↔ ((a : A) × (o ≡ accepted a))
  pub number : (number place : ℕ) → o ≡ refused number place → w % 256 ≡ number
  pub place : (number place : ℕ) → o ≡ refused number place → place < 2 ^ 56 → w / 256 ≡ place

pub record Shown : Type 0 where
  pub line : (e : Line) → line_result (accepted e) ≡ record { refusal = 0; value = e }
  pub triangle : (e : Triangle) → triangle_result (accepted e) ≡ record { refusal = 0; value = e }
  pub prism : (e : Prism) → prism_result (accepted e) ≡ record { refusal = 0; value = e }
  pub number : (n : ℕ) → number_result (accepted n) ≡ record { refusal = 0; value = n }
  pub yes : truth_result (accepted true) ≡ record { refusal = 0; value = 1 }
  pub no : truth_result (accepted false) ≡ record { refusal = 0; value = 0 }
  pub less_is : compare_result (accepted less) ≡ record { refusal = 0; value = negsuc 0 }
  pub same_is : compare_result (accepted same) ≡ record { refusal = 0; value = pos 0 }
  pub greater_is : compare_result (accepted greater) ≡ record { refusal = 0; value = pos 1 }
  pub point : (a : Point) → point_result (accepted a) ≡ record { refusal = 0; value = a }
  pub grid : (K N : ℕ) → grid_result (accepted (size K N)) ≡ record { refusal = 0; roots = K; leaves = N }
