-- The loop over the shares: each turn writes the boundary of one share more, and what it reached the next share has reached.
-- Assumes nothing.
use mathlib.Core.Path.{◌≡◌, refl, ap, ap₂, ◌∙◌, subst}
use mathlib.Core.List.{List}
use Prim.Native.Nat.{ℕ, ◌+◌, ◌*◌, ◌/◌, ◌≤◌, ◌<◌}
use native.Mathlib.Omega.{arith}
use lib.ListN.{length, set}
use Rattle.paper.specs.Outcome.{rows}
use Rattle.paper.specs.Memory.{written}
use Rattle.paper.proofs.Front.{front_more}
use Rattle.shares.specs.Shares.{total, boundary, boundaries}
use Rattle.shares.specs.Inner.{Within, Stopped}
use Rattle.shares.proofs.Turns.{stopped_boundary, reached_on}

-- the first s boundaries stand in the column, and the first count leaves are within the limit of share s; W is the whole weight
pub record Divided (P W : ℕ) (ws column : List ℕ) (s : ℕ) (column' : List ℕ) (count sum : ℕ) : Type 0 where
  pub shares : s ≤ P + 1
  pub boundaries : column' ≡ written (rows (boundary P ws) 0 s) column
  pub reached : Within ws (s * W / P) count sum

module _ (P W : ℕ) (ws column : List ℕ) where
  pub divided_none : Divided P W ws column 0 column 0 0
  unfolding total
  divided_none =
      record { shares = omega arith; boundaries = refl; reached = record { within = omega arith; summed = refl; under = omega arith } }

module _ {P W s count sum : ℕ} {ws column column' : List ℕ} (d : Divided P W ws column s column' count sum) (room : P < length column) where
  pub divided_all : P < s → column' ≡ written (boundaries P ws) column
  divided_all past =
      let all : s ≡ P + 1 = omega (arith, d.shares) in
      d.boundaries ∙ ap (λ (n : ℕ). written (rows (boundary P ws) 0 n) column) all

  pub divided_more : 0 < P → W ≡ total ws → s ≤ P → (n w : ℕ) → Stopped ws (s * W / P) n w
      → Divided P W ws column (s + 1) (set column' s n) n w
  divided_more some_share whole inside n w t =
      let here = stopped_boundary P some_share s (subst (λ (v : ℕ). Stopped ws (s * v / P) n w) whole t) in
      record {
        shares = omega arith;
        boundaries =
            ap₂ (λ (l : List ℕ) (j : ℕ). set l s j) d.boundaries here ∙ front_more (boundary P ws) column s (omega arith);
        reached = reached_on P some_share s W t.reached;
      }
