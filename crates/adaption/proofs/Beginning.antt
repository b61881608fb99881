-- Whether a merging family begins at leaf i, by what the code looks at: its level, its position, how many leaves follow, and the levels and
-- marks of those. Assumes nothing.
use mathlib.Core.Path.{◌≡◌, ap, ◌∙◌, sym}
use mathlib.Core.Bool.{true, false}
use mathlib.Core.List.{List}
use Prim.Native.Nat.{ℕ, ◌+◌, ◌-◌, ◌%◌, ◌≤◌, ◌<◌}
use native.Mathlib.Nat.{add-zero}
use native.Mathlib.Omega.{arith}
use lib.ListN.{length, get_or}
use borrow.Author.Tests.{ne_eqb}
use Rattle.std.proofs.Math.Nat.{pos_of_ne-zero}
use Rattle.leaves.specs.Leaves.{Leaf, nth, Columns, leaf_at, leaves, room}
use Rattle.leaves.proofs.Columns.{nth_leaves, leaves_length}
use Rattle.marks.specs.Marks.{mark}
use Rattle.adaption.specs.Adaption.{merging}
use Rattle.adaption.specs.Inner.{turn, Ready}
use Rattle.adaption.specs.Laws.{Merging}
use Rattle.adaption.proofs.Family.{merging_is, is_merging, number_in, not_so}

-- ---- the first t leaves from i on have one level and carry 2
module _ (ls ms : List ℕ) (i : ℕ) where
  pub record Alike (t : ℕ) : Type 0 where
    pub levels : (s : ℕ) → s < t → get_or ls (i + s) 0 ≡ get_or ls i 0
    pub marks : (s : ℕ) → s < t → mark ms (i + s) ≡ 2

module _ (n : ℕ) (positive : 0 < n) (cs : Columns) (ms : List ℕ) where
  pub level_at : (j : ℕ) → j < room cs → (nth (leaves cs) j).level ≡ (leaf_at cs j).level
  level_at j inside = ap (λ (v : Leaf). v.level) (nth_leaves cs j inside)

  pub position_at_lem : (j : ℕ) → j < room cs → (nth (leaves cs) j).position ≡ (leaf_at cs j).position
  position_at_lem j inside = ap (λ (v : Leaf). v.position) (nth_leaves cs j inside)

  module _ (i : ℕ) (inside : i < room cs) where
    abbrev never : Type 0
    never = merging n (leaves cs) ms i ≡ false

    by_merging : (Merging n (leaves cs) ms i → ⊥) → never
    by_merging no_family = not_so (merging n (leaves cs) ms i) (λ m. no_family (merging_is n (leaves cs) ms i m))

    pub none_at_root : (leaf_at cs i).level ≡ 0 → never
    none_at_root root = by_merging (λ m. omega (arith, m.deep, level_at i inside))

    pub none_of_younger : ((leaf_at cs i).position % n ≡ 0 → ⊥) → never
    none_of_younger younger =
        by_merging (λ m. younger (ap (λ (p : ℕ). p % n) (sym (position_at_lem i inside))
        ∙ ap (λ (k : ℕ). (nth (leaves cs) k).position % n) (sym (add-zero i)) ∙ number_in n (leaves cs) ms i 0 m positive))

    pub none_so_late : room cs - i < n → never
    none_so_late late = by_merging (λ m. omega (arith, m.inside, leaves_length cs))

    pub none_unmarked : (mark ms i ≡ 2 → ⊥) → never
    none_unmarked other = by_merging (λ m. other (ap (mark ms) (sym (add-zero i)) ∙ m.carries 0 positive))

    module _ (t : ℕ) (below : t < n) (room : n ≤ room cs - i) where
      pub none_of_levels : ((leaf_at cs (i + t)).level ≡ (leaf_at cs i).level → ⊥) → never
      none_of_levels other = by_merging (λ m. other (level m))
        where
          level : Merging n (leaves cs) ms i → (leaf_at cs (i + t)).level ≡ (leaf_at cs i).level
          level m =
              let deep : 0 < (leaf_at cs i).level = rw (sym (level_at i inside)) m.deep in
              sym (level_at (i + t) (omega arith)) ∙ ap (λ (v : Leaf). v.level) (m.sibling t below)
              ∙ omega (arith, deep, level_at i inside)

      pub none_of_marks : (mark ms (i + t) ≡ 2 → ⊥) → never
      none_of_marks other = by_merging (λ m. other (m.carries t below))

    pub begins_family : Ready n cs ms → ((leaf_at cs i).level ≡ 0 → ⊥) → (leaf_at cs i).position % n ≡ 0 → n ≤ room cs - i → Alike cs.levels ms i n
        → merging n (leaves cs) ms i ≡ true
    begins_family ready deep first room alike =
        let deep_at : 0 < (nth (leaves cs) i).level = rw (level_at i inside) (pos_of_ne-zero deep) in
        let room_at : i + n ≤ length (leaves cs) = omega (arith, leaves_length cs) in
        is_merging n (leaves cs) ms i (record {
          deep = deep_at;
          inside = room_at;
          sibling = ready.siblings i room_at deep_at (ap (λ (p : ℕ). p % n) (position_at_lem i inside) ∙ first)
              (λ t below. level_at (i + t) (omega arith) ∙ alike.levels t below ∙ sym (level_at i inside));
          carries = alike.marks;
        })

    -- ---- the turn at leaf i, where it is neither refined nor merges
    pub turn_kept : (mark ms i ≡ 1 → ⊥) → merging n (leaves cs) ms i ≡ false → 0 ≡ turn n (leaves cs) ms i
    turn_kept other none = sym (simp (ne_eqb (mark ms i) 1 other, none))
