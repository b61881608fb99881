-- Document 01, "Refusal numbers": by which of its numbers alone a call refuses, and up to which place. Definitions only.
--
--   Refuses ns most o   where the outcome o is a refusal, its number is one of ns and its place at most `most`
--
-- Assumes nothing.
use Rattle.std.specs.Prelude.{◌≡◌, ℕ, ◌≤◌}
use mathlib.Core.List.{List, Memᴰ}
use Rattle.paper.specs.Outcome.{Outcome, refused}

pub record Refuses {A : Type 0} (numbers : List ℕ) (most : ℕ) (o : Outcome A) : Type 0 where
  pub number : (number place : ℕ) → o ≡ refused number place → Memᴰ number numbers
  pub place : (number place : ℕ) → o ≡ refused number place → place ≤ most
