-- The weights pass their test exactly when none is 0. Assumes nothing.
use mathlib.Core.Path.{◌≡◌, refl, ◌∙◌}
use mathlib.Core.Logic.{◌↔◌}
use mathlib.Core.List.{List, [], ◌∷◌}
use Prim.Native.Nat.{ℕ, suc, ◌<◌}
use native.Mathlib.Omega.{arith}
use lib.Dec.{eqb}
use lib.ListN.{get_or}
use borrow.Author.Tests.{eqb-false, ne_eqb}
use Rattle.std.proofs.Math.Nat.{pos_of_ne-zero}
use Rattle.paper.specs.Outcome.{passed, scan, checks}
use Rattle.paper.proofs.Tests.{no_fault}
use Rattle.paper.proofs.Scan.{scan_each, fault_none}
use Rattle.shares.specs.Calls.{weight_fault}
use Rattle.shares.specs.Laws.{Weighty}

some_weight : (w : ℕ) → weight_fault w ≡ 0 → 0 < w
some_weight w right = pos_of_ne-zero (eqb-false w 0 (no_fault (eqb w 0) 15 0 right).0)

all_pass : (i : ℕ) (ws : List ℕ) → Weighty ws → scan weight_fault i ws passed ≡ passed
all_pass i [] weighty = refl
all_pass i (w ∷ ws) weighty =
    let some = weighty 0 (omega arith) in
    fault_none (weight_fault w) i (scan weight_fault (suc i) ws passed) (simp (ne_eqb w 0 (λ none. omega arith)))
    ∙ all_pass (suc i) ws (λ j below. weighty (suc j) (omega arith))

pub weights_exactly : (ws : List ℕ) → checks weight_fault ws ≡ passed ↔ Weighty ws
weights_exactly ws = ((λ h j below. some_weight (get_or ws j 0) (scan_each weight_fault 0 ws 0 j h below)), all_pass 0 ws)
