-- Document 01, "Leaf lists": "Shares: weights w of 1 to 65,535, whole weight W, P shares." Definitions only.
--
--   total ws          the weights summed; of all of them "whole weight W"
--   largest m test    the largest number up to m that passes the test, 0 where none does
--   boundary P ws s   "Boundary s, for s from 0 to P, is the largest leaf count j whose first j weights sum to S with P·S <= s·W"
--   boundaries P ws   "The answer is the P+1 boundaries"
--   weight P ws s     what share s weighs: "Share s runs from boundary s up to boundary s+1"
--   heaviest ws       the heaviest weight
--
-- Assumes nothing.
use Rattle.std.specs.Prelude.{Bool, cond, List, [], ◌∷◌, ℕ, zero, suc, ◌+◌, ◌*◌, leb, ltb, length, take}
use Rattle.std.proofs.Math.Seq.{slice}
use Rattle.paper.specs.Outcome.{rows}

unfoldable pub total : List ℕ → ℕ
total [] = 0
total (w ∷ ws) = w + total ws

unfoldable pub largest : ℕ → (ℕ → Bool) → ℕ
largest zero test = 0
largest (suc m) test = cond (test (suc m)) (suc m) (largest m test)

abbrev pub boundary : ℕ → List ℕ → ℕ → ℕ
boundary P ws s = largest (length ws) (λ j. leb (P * total (take j ws)) (s * total ws))

abbrev pub boundaries : ℕ → List ℕ → List ℕ
boundaries P ws = rows (boundary P ws) 0 (P + 1)

abbrev pub weight : ℕ → List ℕ → ℕ → ℕ
weight P ws s = total (slice (boundary P ws s) (boundary P ws (s + 1)) ws)

unfoldable pub heaviest : List ℕ → ℕ
heaviest [] = 0
heaviest (w ∷ ws) = cond (ltb (heaviest ws) w) w (heaviest ws)
