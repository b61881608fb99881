-- The numbers of the leaves that a turn makes fit their types: a leaf that is refined is not too deep, one whose family merges is not the
-- root. Assumes nothing.
use mathlib.Core.Path.{◌≡◌, ◌∙◌, sym, subst⁻¹}
use mathlib.Core.List.{List}
use Prim.Native.Nat.{ℕ, ◌+◌, ◌*◌, ◌^◌, ◌≤◌, ◌<◌}
use native.Mathlib.Omega.{arith}
use Rattle.leaves.specs.Leaves.{Leaf, Columns, leaf_at, leaves, room}
use Rattle.leaves.proofs.Columns.{leaves_length}
use Rattle.adaption.specs.Inner.{turn, Ready, Turns}
use Rattle.adaption.proofs.Turns.{Clear, Turn, turn_at}
use Rattle.adaption.proofs.Beginning.{level_at}

module _ (n : ℕ) (positive : 0 < n) (cs : Columns) (ms : List ℕ) (ready : Ready n cs ms) (i : ℕ) (inside : i < room cs)
    (clear : Clear n positive (leaves cs) ms i) (t : ℕ) (is_turn : t ≡ turn n (leaves cs) ms i) where
  here : Turn n positive (leaves cs) ms i
  here = turn_at n positive (leaves cs) ms i (omega (arith, leaves_length cs)) clear

  level_below : t ≡ 1 → (leaf_at cs i).level < 255
  level_below one = ready.shallow i inside (here.refines (sym is_turn ∙ one))

  level_above : t ≡ 2 → 0 < (leaf_at cs i).level
  level_above two = rw (sym (level_at n positive cs ms i inside)) (here.merges (sym is_turn ∙ two)).deep

  position_below : t ≡ 1 → n * (leaf_at cs i).position + n ≤ 2 ^ 63
  position_below one = ready.narrow i inside (here.refines (sym is_turn ∙ one))

  pub turns : (v : Leaf) → v ≡ leaf_at cs i → Turns n t v
  turns v is = subst⁻¹ (Turns n t) is (record { shallow = level_below; deep = level_above; narrow = position_below })
