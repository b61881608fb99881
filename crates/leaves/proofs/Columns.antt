-- What stands in columns: entry by entry; leaves written at the front are the first entries; the columns of a valid list's leaves are one.
-- Assumes nothing.
use mathlib.Core.Path.{◌≡◌, ap, ap₂, ◌∙◌, sym, subst⁻¹}
use mathlib.Core.List.{List, map}
use Prim.Native.Nat.{ℕ, zero, suc, ◌+◌, ◌≤◌, ◌<◌}
use native.Mathlib.Nat.{add-zero, add-suc, suc-add, zero-add}
use native.Mathlib.Omega.{arith}
use lib.ListN.{length, get_or, take, drop, length-map}
use lib.Seq.{take_at}
use Rattle.paper.specs.Outcome.{rows}
use Rattle.paper.specs.Memory.{written}
use Rattle.paper.proofs.Scan.{rows_length}
use Rattle.leaves.specs.Leaves.{Leaf, leaf, nth, Columns, leaf_at, leaves, columns_of, room, front, first_entries, Valid}
use Rattle.leaves.specs.Calls.{limit, most}
use Rattle.leaves.specs.Laws.{ValidList}
use Rattle.leaves.proofs.Entries.{leaves_of_columns}

-- columns are known by their entries
pub columns_same : (m m' : Columns) → m.roots ≡ m'.roots → m.levels ≡ m'.levels → m.positions ≡ m'.positions → m ≡ m'
columns_same m m' r l p =
    ap (λ (x : List ℕ). record { roots = x; levels = m.levels; positions = m.positions }) r
    ∙ ap (λ (x : List ℕ). record { roots = m'.roots; levels = x; positions = m.positions }) l
    ∙ ap (λ (x : List ℕ). record { roots = m'.roots; levels = m'.levels; positions = x }) p

pub get_d_rows : {A : Type 0} (entry : ℕ → A) (d : A) (i k j : ℕ) → j < k → get_or (rows entry i k) j d ≡ entry (i + j)
get_d_rows entry d i zero j inside = absurd (omega arith)
get_d_rows entry d i (suc k) zero inside = ap entry (sym (add-zero i))
get_d_rows entry d i (suc k) (suc j) inside = get_d_rows entry d (suc i) k j (omega arith) ∙ ap entry (suc-add i j ∙ sym (add-suc i j))

module _ (cs : Columns) where
  pub nth_leaves : (j : ℕ) → j < room cs → nth (leaves cs) j ≡ leaf_at cs j
  nth_leaves j inside = get_d_rows (leaf_at cs) (leaf 0 0 0) 0 (room cs) j inside ∙ ap (leaf_at cs) (zero-add j)

  pub leaves_length : length (leaves cs) ≡ room cs
  leaves_length = rows_length (leaf_at cs) 0 (room cs)

-- ---- what is written at the front of lent columns, whatever their room
first_written : (f : Leaf → ℕ) (vs : List Leaf) (l : List ℕ) → take (length vs) (written (map f vs) l) ≡ map f vs
first_written f vs l = take_at (map f vs) (drop (length (map f vs)) l) (length vs) (length-map vs f)

pub first_front : (vs : List Leaf) (m : Columns) → first_entries (length vs) (front vs m) ≡ columns_of vs
first_front vs m =
    columns_same (first_entries (length vs) (front vs m)) (columns_of vs)
    (first_written (λ (v : Leaf). v.root) vs m.roots)
    (first_written (λ (v : Leaf). v.level) vs m.levels)
    (first_written (λ (v : Leaf). v.position) vs m.positions)

pub first_of : (vs : List Leaf) (m m' : Columns) (N : ℕ) → m' ≡ front vs m → length vs ≡ N → first_entries N m' ≡ columns_of vs
first_of vs m m' N is long = ap₂ first_entries (sym long) is ∙ first_front vs m

-- ---- the columns of a valid list's leaves
pub columns_valid : (n L K : ℕ) (vs : List Leaf) → 0 < K → K ≤ most → 0 < length vs → length vs ≤ limit → Valid n L K vs
    → ValidList n L K (columns_of vs)
columns_valid n L K vs some_root few_roots some few valid =
    let long : room (columns_of vs) ≡ length vs = length-map vs (λ (v : Leaf). v.root) in
    record {
      some_root = some_root;
      few_roots = few_roots;
      levels_long = long ∙ sym (length-map vs (λ (v : Leaf). v.level));
      positions_long = long ∙ sym (length-map vs (λ (v : Leaf). v.position));
      some = omega arith;
      few = omega arith;
      valid = subst⁻¹ (Valid n L K) (leaves_of_columns vs) valid;
    }
