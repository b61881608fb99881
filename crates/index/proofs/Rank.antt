-- A position is the rank by the thesis's index. Each step down puts its digits into the place of its level: a line the child's number, a
-- triangle the y, x and type of the step's row, a prism the step along z before them; and from child to child these rise. Assumes nothing.
use mathlib.Core.Path.{◌≡◌, refl, subst}
use mathlib.Core.List.{[], ◌∷◌}
use Prim.Native.Nat.{ℕ, zero, suc, ◌+◌, ◌-◌, ◌*◌, ◌/◌, ◌%◌, ◌<◌}
use native.Mathlib.Nat.{lt_trans}
use native.Mathlib.Decide.{dec_lt}
use native.Mathlib.Omega.{arith}
use Rattle.line.specs.Elements.{line_to}
use Rattle.triangle.specs.declared.Triangle.{Triangle}
use Rattle.rows.specs.Rows.{child_row}
use Rattle.triangle.specs.Elements.{triangle_to}
use Rattle.rows.proofs.Tables.{each_child, each_face, child_row_small}
use Rattle.triangle.specs.Lawful.{Known, known}
use Rattle.prism.specs.Elements.{prism_to, plan}
use Rattle.prism.specs.Lawful.{grids}
use Rattle.line.specs.Lawful as line_laws
use Rattle.triangle.specs.Elements as triangle
use Rattle.triangle.specs.Lawful as triangle_laws
use Rattle.prism.specs.Lawful as prism_laws
use Rattle.index.specs.Index.{bit, line_index, triangle_index, prism_index}
use Rattle.index.specs.Rank.{Ranked}
use Rattle.index.proofs.Rise.{Marked, ranked_of_marked}
use Rattle.index.proofs.Overlay.{Grown, Laid, none, laid, bit_grown, types_grown, overlaid_laid}

-- ---- lines
pub line_ranked : (L : ℕ) → Ranked (line_to L) line_index
unfolding line_to
line_ranked L =
    ranked_of_marked (line_to L) (line_laws.lawful L) line_index 2 (λ e i. i)
    (record { below = λ e i ok small. small; rise = λ e i j ok less small. less; steps = λ e i ok room small. refl })

-- ---- the digits of a step
-- what the step to child i of a triangle of type t puts in its place: its y, its x and its type, as a group sums them
abbrev digits : ℕ → ℕ → ℕ
digits t i = (child_row t i).y * 4 + ((child_row t i).x * 2 + ((child_row t i).kind * 1 + 0))

digits_lt : (t i : ℕ) → t < 2 → i < 4 → digits t i < 8
digits_lt =
    each_child (λ (t i : ℕ). digits t i < 8)
    (omega arith) (omega arith) (omega arith) (omega arith) (omega arith) (omega arith) (omega arith) (omega arith)

digits_next : (t i : ℕ) → t < 2 → i < 3 → digits t i < digits t (suc i)
digits_next =
    each_face (λ (t i : ℕ). digits t i < digits t (suc i))
    (omega arith) (omega arith) (omega arith) (omega arith) (omega arith) (omega arith)

-- along a row of four they rise
digits_rise : (t i j : ℕ) → t < 2 → i < j → j < 4 → digits t i < digits t j
digits_rise t i zero kind less small = absurd (omega arith)
digits_rise t i (suc j) kind less small = decide (dec_lt i j) (digits_rise t i j kind)
  where
    next : digits t j < digits t (suc j)
    next = digits_next t j kind (omega arith)

    decide : Dec (i < j) → (i < j → j < 4 → digits t i < digits t j) → digits t i < digits t (suc j)
    decide (yes before) rest = lt_trans (rest before (omega arith)) next
    decide (no at) rest = let same : j ≡ i = omega arith in subst (λ (k : ℕ). digits t k < digits t (suc j)) same next

-- the same of a prism: the step along z before them
abbrev digits_up : ℕ → ℕ → ℕ
digits_up t i = i / 4 * 8 + digits t (i % 4)

digits_up_rise : (t i j : ℕ) → t < 2 → i < j → j < 8 → digits_up t i < digits_up t j
digits_up_rise t i j kind less small = decide (dec_lt (i / 4) (j / 4))
  where
    decide : Dec (i / 4 < j / 4) → digits_up t i < digits_up t j
    decide (yes below) = omega (arith, digits_lt t (i % 4) kind (omega arith))
    decide (no beside) = omega (arith, digits_rise t (i % 4) (j % 4) kind (omega arith) (omega arith))

module _ (L : ℕ) where
  -- the tuples of a triangle and of its child, with those of the types or of whatever grows by the child's type
  plan_laid : (e : Triangle) (i : ℕ) (a b : ℕ → ℕ) → Known L e → e.level < L → i < 4
      → Grown L (L - suc e.level) (triangle.child L e i).kind a b
      → Laid L (L - suc e.level) (digits e.kind i)
      ((λ j. bit j e.y) ∷ (λ j. bit j e.x) ∷ a ∷ [])
      ((λ j. bit j (triangle.child L e i).y) ∷ (λ j. bit j (triangle.child L e i).x) ∷ b ∷ [])
  plan_laid e i a b k room small g =
      let s = child_row e.kind i in
      let bits = child_row_small e.kind i k.typed small in
      laid (bit_grown L e.level e.y s.y room bits.1.0 k.grid_y)
      (laid (bit_grown L e.level e.x s.x room bits.0 k.grid_x) (laid g none))

  -- ---- triangles
  triangle_marked : Marked (triangle_to L) (triangle_index L) 8 (λ e i. digits e.kind i)
  unfolding triangle_to
  triangle_marked =
      record {
        below = λ e i ok small. digits_lt e.kind i (known L e ok).typed small;
        rise = λ e i j ok less small. digits_rise e.kind i j (known L e ok).typed less small;
        steps = λ e i ok room small.
            overlaid_laid (omega arith)
            (plan_laid e i _ _ (known L e ok) room small (types_grown (triangle_to L) (triangle_laws.lawful L) (λ f. f.kind) e i ok room small));
      }

  pub triangle_ranked : Ranked (triangle_to L) (triangle_index L)
  triangle_ranked = ranked_of_marked (triangle_to L) (triangle_laws.lawful L) (triangle_index L) 8 _ triangle_marked

  -- ---- prisms
  prism_marked : Marked (prism_to L) (prism_index L) 16 (λ e i. digits_up e.kind i)
  unfolding prism_to
  prism_marked =
      record {
        below = λ e i ok small. omega (arith, digits_lt e.kind (i % 4) (grids L e ok).0.typed (omega arith));
        rise = λ e i j ok less small. digits_up_rise e.kind i j (grids L e ok).0.typed less small;
        steps = λ e i ok room small.
            overlaid_laid (omega arith)
            (laid (bit_grown L e.level e.z (i / 4) room (omega arith) (grids L e ok).1)
            (plan_laid (plan e) (i % 4) _ _ (grids L e ok).0 room (omega arith)
            (types_grown (prism_to L) (prism_laws.lawful L) (λ f. f.kind) e i ok room small)));
      }

  pub prism_ranked : Ranked (prism_to L) (prism_index L)
  prism_ranked = ranked_of_marked (prism_to L) (prism_laws.lawful L) (prism_index L) 16 _ prism_marked
