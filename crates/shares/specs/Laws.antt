-- What is promised of shares, as statements. Definitions only.
--
--   Boundary P ws s j  j is "the largest leaf count j whose first j weights sum to S with P·S <= s·W"
--   InShare P ws s j   leaf j lies in share s
--   OneShare P ws j    leaf j lies in exactly one of the P shares
--   Fair               what the boundaries are, and how they divide the leaves: from none to all, each leaf in exactly one share, and
--                      |P·weight - W| < P·heaviest, strictly, as two bounds
--   Weighty ws         no weight is 0
--   Heaviest ws h      h is the heaviest weight: one leaf has it, and none is heavier
--   Promised           all of it; "With equal weights this is the thesis's formula 27"; how many boundaries there are; `heaviest` is the heaviest
--
-- Assumes nothing.
use Rattle.std.specs.Prelude.{◌≡◌, List, ℕ, ◌+◌, ◌*◌, ◌/◌, ◌≤◌, ◌<◌, length, get_or, take, replicate}
use Rattle.paper.specs.Exactly.{ExactlyOne}
use Rattle.shares.specs.Shares.{total, boundary, boundaries, weight, heaviest}

module _ (P : ℕ) (ws : List ℕ) where
  pub record Boundary (s j : ℕ) : Type 0 where
    pub within : j ≤ length ws
    pub under : P * total (take j ws) ≤ s * total ws
    pub largest : (i : ℕ) → i ≤ length ws → P * total (take i ws) ≤ s * total ws → i ≤ j

  pub record InShare (s j : ℕ) : Type 0 where
    pub from : boundary P ws s ≤ j
    pub to : j < boundary P ws (s + 1)

  abbrev pub OneShare : ℕ → Type 0
  OneShare j = ExactlyOne P (λ s. InShare s j)

  pub record Fair : Type 0 where
    pub largest : (s : ℕ) → Boundary s (boundary P ws s)
    pub from_none : boundary P ws 0 ≡ 0
    pub to_all : boundary P ws P ≡ length ws
    pub rising : (s : ℕ) → boundary P ws s ≤ boundary P ws (s + 1)
    pub one_share : (j : ℕ) → j < length ws → OneShare j
    pub not_far_above : (s : ℕ) → s < P → P * weight P ws s < total ws + P * heaviest ws
    pub not_far_below : (s : ℕ) → s < P → total ws < P * weight P ws s + P * heaviest ws

abbrev pub Weighty : List ℕ → Type 0
Weighty ws = (j : ℕ) → j < length ws → 0 < get_or ws j 0

pub record Heaviest (ws : List ℕ) (h : ℕ) : Type 0 where
  pub one : (j : ℕ) × ((j < length ws) × (get_or ws j 0 ≡ h))
  pub none_heavier : (j : ℕ) → j < length ws → get_or ws j 0 ≤ h

pub record Promised : Type 0 where
  pub fair : (P : ℕ) (ws : List ℕ) → 0 < P → Weighty ws → 0 < length ws → Fair P ws
  pub equal : (P N w s : ℕ) → 0 < P → 0 < w → s ≤ P → boundary P (replicate N w) s ≡ s * N / P
  pub many : (P : ℕ) (ws : List ℕ) → length (boundaries P ws) ≡ P + 1
  pub heaviest_is : (ws : List ℕ) → 0 < length ws → Heaviest ws (heaviest ws)
