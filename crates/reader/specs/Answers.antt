-- Document 01, "The right form for each place": "For each answer that is an enum, a definition gives this paper's number and
-- values for each of the enum's cases, and the promises use that definition."
--
--   Size     the number of roots and of leaves of a grid
--   grid_of  the outcome that a Grid, read or refused, stands for
--
-- Assumes nothing.
use Rattle.std.specs.Prelude.{ℕ}
use Rattle.std.specs.declared.result.Result.{Result}
use Rattle.paper.specs.declared.Refusal.{Refusal}
use Rattle.paper.specs.Outcome.{Outcome, mapped}
use Rattle.paper.specs.Refusals.{outcome_of}
use Rattle.reader.specs.declared.Grid.{Grid}

pub record Size : Type 0 where
  pub roots : ℕ
  pub leaves : ℕ

abbrev pub size : ℕ → ℕ → Size
size roots leaves = record { roots = roots; leaves = leaves }

abbrev pub grid_of : Result Grid Refusal → Outcome Size
grid_of r = mapped (λ (g : Grid). size g.roots g.leaves) (outcome_of r)
