-- Document 01, "Leaf lists": "Balanced: any two leaves that follow one another in one root differ by at most one level." Definitions only.
--
--   near u v         the leaves u and v, if of one root, differ by at most one level
--   is_balanced vs   so do any two of vs that follow one another; balanced_after u vs: and u and the first of vs
--   balanced         the call: the tests of a list call, then yes or no
--   Balanced vs      the paper's sentence as a statement, Near u v for two leaves
--
-- Assumes nothing.
use Rattle.std.specs.Prelude.{◌≡◌, Bool, true, not, ◌&&◌, ◌||◌, List, [], ◌∷◌, ℕ, ◌+◌, ◌≤◌, ◌<◌, leb, eqb, length}
use Rattle.paper.specs.Outcome.{Outcome, accepted}
use Rattle.leaves.specs.Leaves.{Leaf, nth, Columns, leaves}
use Rattle.leaves.specs.Calls.{listed}

abbrev pub near : Leaf → Leaf → Bool
near u v = not (eqb u.root v.root) || (leb u.level (v.level + 1) && leb v.level (u.level + 1))

-- the leaves vs after the leaf u
unfoldable pub balanced_after : Leaf → List Leaf → Bool
balanced_after u [] = true
balanced_after u (v ∷ vs) = near u v && balanced_after v vs

unfoldable pub is_balanced : List Leaf → Bool
is_balanced [] = true
is_balanced (u ∷ vs) = balanced_after u vs

abbrev pub balanced : ℕ → ℕ → ℕ → Columns → Outcome Bool
balanced n L K cs = listed n L K true true cs (accepted (is_balanced (leaves cs)))

pub record Near (u v : Leaf) : Type 0 where
  pub not_far_below : u.level ≤ v.level + 1
  pub not_far_above : v.level ≤ u.level + 1

abbrev pub Balanced : List Leaf → Type 0
Balanced vs = (i : ℕ) → i + 1 < length vs → (nth vs i).root ≡ (nth vs (i + 1)).root → Near (nth vs i) (nth vs (i + 1))
