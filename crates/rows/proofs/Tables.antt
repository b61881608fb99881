-- The two rows of four hold each of the eight steps exactly once, at the number that document 02's rule works out, and keep a triangle inside its
-- parent: eight entries, computed.
-- Assumes nothing.
use mathlib.Core.Path.{◌≡◌, refl}
use Prim.Native.Nat.{ℕ, ◌+◌, ◌*◌, ◌%◌, ◌≤◌, ◌<◌}
use native.Mathlib.Nat.{mod-lt}
use native.Mathlib.Omega.{arith}
use lib.Dec.{lit<}
use Rattle.tree.proofs.Cases.{below_2, below_3, below_4}
use Rattle.rows.specs.declared.Step.{Step}
use Rattle.rows.specs.Rows.{step, child_row, parent_kind, number_of, face_row}

-- a statement about the two rows of four, entry by entry
pub each_child : (P : ℕ → ℕ → Type 0) → P 0 0 → P 0 1 → P 0 2 → P 0 3 → P 1 0 → P 1 1 → P 1 2 → P 1 3 → (t i : ℕ) → t < 2 → i < 4 → P t i
each_child P a b c d e f g h t i kind small =
    below_2 (λ (k : ℕ). P k i) (below_4 (P 0) a b c d i small) (below_4 (P 1) e f g h i small) t kind

-- a statement about the two rows of three, entry by entry
pub each_face : (P : ℕ → ℕ → Type 0) → P 0 0 → P 0 1 → P 0 2 → P 1 0 → P 1 1 → P 1 2 → (t i : ℕ) → t < 2 → i < 3 → P t i
each_face P a b c d e f t i kind small =
    below_2 (λ (k : ℕ). P k i) (below_3 (P 0) a b c i small) (below_3 (P 1) d e f i small) t kind

-- a statement about the eight steps
pub each_step : (P : ℕ → ℕ → ℕ → Type 0) → P 0 0 0 → P 0 0 1 → P 0 1 0 → P 0 1 1 → P 1 0 0 → P 1 0 1 → P 1 1 0 → P 1 1 1
    → (x y t : ℕ) → x < 2 → y < 2 → t < 2 → P x y t
each_step P a b c d e f g h x y t sx sy st =
    below_2 (λ (k : ℕ). P k y t)
    (below_2 (λ (k : ℕ). P 0 k t) (below_2 (P 0 0) a b t st) (below_2 (P 0 1) c d t st) y sy)
    (below_2 (λ (k : ℕ). P 1 k t) (below_2 (P 1 0) e f t st) (below_2 (P 1 1) g h t st) y sy)
    x sx

-- ---- down and up again
abbrev Small : Step → Type 0
Small s = (s.x < 2) × ((s.y < 2) × (s.kind < 2))

pub child_row_small : (t i : ℕ) → t < 2 → i < 4 → Small (child_row t i)
child_row_small =
    each_child (λ (t i : ℕ). Small (child_row t i)) (omega arith) (omega arith) (omega arith) (omega arith) (omega arith) (omega arith) (omega arith) (omega arith)

-- as the code reads it
pub row_small : (t i : ℕ) (s : Step) → s ≡ child_row (t % 2) (i % 4) → Small s
row_small t i s read = rw read (child_row_small (t % 2) (i % 4) (mod-lt t (lit< tt)) (mod-lt i (lit< tt)))

pub parent_kind_child : (t i : ℕ) → t < 2 → i < 4 → parent_kind (child_row t i) ≡ t
unfolding parent_kind
parent_kind_child = each_child (λ (t i : ℕ). parent_kind (child_row t i) ≡ t) refl refl refl refl refl refl refl refl

pub number_of_child_lem : (t i : ℕ) → t < 2 → i < 4 → number_of (child_row t i) ≡ i
unfolding number_of
number_of_child_lem = each_child (λ (t i : ℕ). number_of (child_row t i) ≡ i) refl refl refl refl refl refl refl refl

-- ---- up and down again
pub child_row_slot : (x y t : ℕ) → x < 2 → y < 2 → t < 2 → child_row (parent_kind (step x y t)) (number_of (step x y t)) ≡ step x y t
unfolding number_of parent_kind
child_row_slot =
    each_step (λ (x y t : ℕ). child_row (parent_kind (step x y t)) (number_of (step x y t)) ≡ step x y t) refl refl refl refl refl refl refl refl

pub parent_kind_lt : (x y t : ℕ) → x < 2 → y < 2 → t < 2 → parent_kind (step x y t) < 2
unfolding parent_kind
parent_kind_lt =
    each_step (λ (x y t : ℕ). parent_kind (step x y t) < 2) (omega arith) (omega arith) (omega arith) (omega arith) (omega arith) (omega arith) (omega arith) (omega arith)

pub number_of_lt : (x y t : ℕ) → x < 2 → y < 2 → t < 2 → number_of (step x y t) < 4
unfolding number_of
number_of_lt =
    each_step (λ (x y t : ℕ). number_of (step x y t) < 4) (omega arith) (omega arith) (omega arith) (omega arith) (omega arith) (omega arith) (omega arith) (omega arith)

-- ---- inside the root, in sides of the element's own level: v + t ≤ u
pub child_inside : (u v t i : ℕ) → t < 2 → i < 4 → v + t ≤ u → 2 * v + (child_row t i).y + (child_row t i).kind ≤ 2 * u + (child_row t i).x
child_inside u v =
    each_child (λ (t i : ℕ). v + t ≤ u → 2 * v + (child_row t i).y + (child_row t i).kind ≤ 2 * u + (child_row t i).x)
    (λ h. omega arith) (λ h. omega arith) (λ h. omega arith) (λ h. omega arith) (λ h. omega arith) (λ h. omega arith) (λ h. omega arith) (λ h. omega arith)

pub parent_inside : (u v x y t : ℕ) → x < 2 → y < 2 → t < 2 → 2 * v + y + t ≤ 2 * u + x → v + parent_kind (step x y t) ≤ u
unfolding parent_kind
parent_inside u v =
    each_step (λ (x y t : ℕ). 2 * v + y + t ≤ 2 * u + x → v + parent_kind (step x y t) ≤ u)
    (λ h. omega arith) (λ h. omega arith) (λ h. omega arith) (λ h. omega arith) (λ h. omega arith) (λ h. omega arith) (λ h. omega arith) (λ h. omega arith)

-- ---- the face rows
pub face_row_small : (t i : ℕ) → t < 2 → i < 3 → ((face_row t i).x < 3) × (((face_row t i).y < 3) × ((face_row t i).kind < 2))
face_row_small =
    each_face (λ (t i : ℕ). ((face_row t i).x < 3) × (((face_row t i).y < 3) × ((face_row t i).kind < 2))) (omega arith) (omega arith) (omega arith) (omega arith) (omega arith) (omega arith)

-- ---- one step, from its parts
