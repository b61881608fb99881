-- The leaves of a valid list stand along the curve: each ends at or before the start of every later one, and holds at least one cell, so its
-- start comes before theirs; within a root that is the order of the first descendants' positions. Assumes nothing.
use mathlib.Core.Path.{◌≡◌, ap, ap₂, ◌∙◌}
use mathlib.Core.Logic.{inl, inr}
use mathlib.Core.List.{List, [], ◌∷◌}
use Prim.Native.Nat.{ℕ, zero, suc, ◌+◌, ◌-◌, ◌*◌, ◌^◌, ◌≤◌, ◌<◌}
use native.Mathlib.Nat.{mul-le-mul_right}
use native.Mathlib.Decide.{dec_lt}
use native.Mathlib.Omega.{arith}
use lib.ListN.{length}
use Rattle.paper.specs.Outcome.{less}
use Rattle.tree.specs.Shape.{Shape}
use Rattle.tree.specs.Laws.{Lawful}
use Rattle.tree.specs.Words as words
use Rattle.tree.proofs.RoundTrip.{round_trips}
use Rattle.tree.proofs.Descent.{positions}
use Rattle.tree.proofs.Ordering.{compared_less}
use Rattle.leaves.specs.Leaves.{Leaf, nth, Spot, spot_at, span, begin, start_of, end_of, Covers, Valid}
use Rattle.leaves.specs.Cells.{element_of, Proper, Earlier}
use Rattle.leaves.proofs.Span.{more_mul, power_pos, past_begin, past_le}
use Rattle.leaves.proofs.Entries.{level_at, position_at_lem}
use Rattle.leaves.proofs.Cells.{number, number_end}

-- ---- starts and ends, counted through all roots
module _ (n L K : ℕ) where
  starts_from : (c : Spot) (vs : List Leaf) (j : ℕ) → Covers n L c vs K → j < length vs → number n L c ≤ number n L (start_of n L (nth vs j))
  unfolding Covers
  starts_from c [] j f inside = absurd (omega arith)
  starts_from c (v ∷ vs) zero f inside = omega (arith, ap (number n L) f.2)
  starts_from c (v ∷ vs) (suc j) f inside =
      omega (arith, ap (number n L) f.2, number_end n L v, starts_from (end_of n L v) vs j f.4 (omega arith))

  ends_before : (c : Spot) (vs : List Leaf) (i j : ℕ) → Covers n L c vs K → i < j → j < length vs
      → number n L (end_of n L (nth vs i)) ≤ number n L (start_of n L (nth vs j))
  unfolding Covers
  ends_before c [] i j f later inside = absurd (omega arith)
  ends_before c (v ∷ vs) i zero f later inside = absurd (omega arith)
  ends_before c (v ∷ vs) zero (suc j) f later inside = starts_from (end_of n L v) vs j f.4 (omega arith)
  ends_before c (v ∷ vs) (suc i) (suc j) f later inside = ends_before (end_of n L v) vs i j f.4 (omega arith) (omega arith)

-- of two places counted through all roots, the earlier is in no later root
root_le : (m r b s d : ℕ) → d < m → r * m + b < s * m + d → r ≤ s
root_le m r b s d small before = by (dec_lt s r)
  where
    by : Dec (s < r) → r ≤ s
    by (yes above) =
        let next : s + 1 ≤ r = omega arith in
        absurd (omega (arith, mul-le-mul_right m next, more_mul s m))
    by (no none) = omega arith

module _ {E : Type 0} (S : Shape E) (W : Lawful S) where
  -- the number of a place, where a leaf starts and ends, its first cell, how many cells a root has
  abbrev numbered : Spot → ℕ
  numbered = number S.children S.highest

  abbrev from : Leaf → ℕ
  from = begin S.children S.highest

  abbrev cells : ℕ
  cells = S.children ^ S.highest

  pub proper_at : (K : ℕ) (vs : List Leaf) → Valid S.children S.highest K vs → (j : ℕ) → j < length vs → Proper S (nth vs j)
  proper_at K vs valid j inside =
      record {
        level = level_at S.children S.highest K (spot_at 0 0) vs j valid inside;
        position = position_at_lem S.children S.highest K (spot_at 0 0) vs j valid inside;
      }

  some_cells : (v : Leaf) → 0 < span S.children S.highest v.level
  some_cells v = power_pos S.children (S.highest - v.level) (omega (arith, W.several))

  from_lt : (v : Leaf) → Proper S v → from v < cells
  from_lt v proper =
      omega (arith, past_le S.children S.highest v proper.level proper.position, past_begin S.children S.highest v, some_cells v)

  -- the first descendant of a leaf's element is the first smallest cell that the leaf holds
  first_from : (v : Leaf) → Proper S v → words.position S (words.first S (element_of S v) S.highest) ≡ from v
  first_from v proper =
      let trips = round_trips S W in
      let level = trips.at_level v.level v.position in
      let sound = trips.at_sound v.level v.position proper.level proper.position in
      let shallow : S.level (element_of S v) ≤ S.highest = omega (arith, proper.level) in
      (positions S W).of_first (element_of S v) S.highest sound shallow (omega arith)
      ∙ ap₂ (λ (p l : ℕ). p * S.children ^ (S.highest - l)) (trips.position_at_lem v.level v.position proper.level proper.position) level

  -- ---- one leaf ends at or before the start of another
  module _ (u v : Leaf) (first : Proper S u) (second : Proper S v)
      (after : numbered (end_of S.children S.highest u) ≤ numbered (start_of S.children S.highest v)) where
    starts_before : u.root * cells + from u < v.root * cells + from v
    starts_before = omega (arith, number_end S.children S.highest u, some_cells u)

    before : u.root ≡ v.root → words.order S (element_of S u) (element_of S v) ≡ less
    unfolding words.order
    before same =
        let scaled : u.root * cells ≡ v.root * cells = ap (λ (r : ℕ). r * cells) same in
        let less_far : words.position S (words.first S (element_of S u) S.highest) < words.position S (words.first S (element_of S v) S.highest) =
        omega (arith, first_from u first, first_from v second, starts_before) in
        compared_less _ _ _ less_far

    earlier : Earlier S u v
    earlier = by (dec_lt u.root v.root)
      where
        by : Dec (u.root < v.root) → Earlier S u v
        by (yes lower) = inl lower
        by (no none) =
            let upto = root_le cells u.root (from u) v.root (from v) (from_lt v second) starts_before in
            let same : u.root ≡ v.root = omega arith in
            inr (same, before same)

  pub along : (K : ℕ) (vs : List Leaf) → Valid S.children S.highest K vs → (i j : ℕ) → i < j → j < length vs → Earlier S (nth vs i) (nth vs j)
  along K vs valid i j later inside =
      earlier (nth vs i) (nth vs j) (proper_at K vs valid i (omega arith)) (proper_at K vs valid j inside)
      (ends_before S.children S.highest K (spot_at 0 0) vs i j valid later inside)
