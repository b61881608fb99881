-- Positions of one level, tested one after the other. Assumes nothing.
use mathlib.Core.Path.{◌≡◌, ap, ◌∙◌}
use mathlib.Core.List.{List}
use Prim.Native.Nat.{ℕ, ◌+◌, ◌*◌, ◌%◌, ◌^◌, ◌≤◌, ◌<◌}
use native.Mathlib.Nat.{lt_of_le_of_lt}
use native.Mathlib.Omega.{arith}
use lib.Dec.{leb}
use lib.ListN.{length, get_or, drop}
use borrow.Author.Tests.{le-ltb, lt-leb, le-leb, leb-false}
use Rattle.paper.specs.Outcome.{refused, passed, checks, scan}
use Rattle.paper.proofs.Tests.{no_fault}
use Rattle.paper.proofs.Scan.{scan_sound, scan_each, entry_found, entry_next}
use Rattle.tree.proofs.Digits.{shifted_power}
use Rattle.positions.specs.Positions.{position_fault, check_positions}

module _ (l : ℕ) (ps : List ℕ) where
  -- ---- one position, as the loop meets it
  module _ (i : ℕ) (shallow : l ≤ 21) (inside : i < length ps) where
    pub position_found : 1 * 2 ^ (3 * l) % 2 ^ 64 ≤ get_or ps i 0 → scan (position_fault l) i (drop i ps) passed ≡ refused 5 i
    position_found beyond =
        let large : 8 ^ l ≤ get_or ps i 0 = rw (shifted_power 3 l (omega arith)) at beyond in
        let is : position_fault l (get_or ps i 0) ≡ 5 = simp (le-leb (8 ^ l) (get_or ps i 0) large) in
        entry_found (position_fault l) passed ps 0 i inside (λ nothing. omega (arith, is, nothing)) ∙ ap (λ (number : ℕ). refused number i) is

    pub position_next : get_or ps i 0 < 1 * 2 ^ (3 * l) % 2 ^ 64
        → scan (position_fault l) i (drop i ps) passed ≡ scan (position_fault l) (i + 1) (drop (i + 1) ps) passed
    position_next below =
        let small : get_or ps i 0 < 8 ^ l = rw (shifted_power 3 l (omega arith)) at below in
        entry_next (position_fault l) passed ps 0 i inside (simp (lt-leb (8 ^ l) (get_or ps i 0) small))

  -- ---- all of them
  pub all_inside : ((j : ℕ) → j < length ps → get_or ps j 0 < 8 ^ l) → checks (position_fault l) ps ≡ passed
  all_inside below = scan_sound (position_fault l) 0 ps 0 (λ j inside. simp (lt-leb (8 ^ l) (get_or ps j 0) (below j inside)))

  pub each_inside : checks (position_fault l) ps ≡ passed → (j : ℕ) → j < length ps → get_or ps j 0 < 8 ^ l
  each_inside sound j inside =
      leb-false (8 ^ l) (get_or ps j 0) (no_fault (leb (8 ^ l) (get_or ps j 0)) 4 0 (scan_each (position_fault l) 0 ps 0 j sound inside)).0

  -- a number that none passes is below the count
  pub none_beyond : (bits : ℕ) → l ≤ 21 → ((j : ℕ) → j < length ps → get_or ps j 0 ≤ bits) → bits < 1 * 2 ^ (3 * l) % 2 ^ 64 → check_positions l ps ≡ passed
  none_beyond bits shallow under below =
      let few : bits < 8 ^ l = rw (shifted_power 3 l (omega arith)) at below in
      simp (le-ltb 21 l shallow) (all_inside (λ j inside. lt_of_le_of_lt (under j inside) few))
