-- The page of a prism is its own row and then its parent's page: its last digits are the anchor's bits at its level, the digits before them count
-- the parent's sides, and the type above is the parent's. Assumes nothing.
use mathlib.Core.Path.{◌≡◌, refl, ap, ap₂, ◌∙◌, sym}
use mathlib.Core.List.{◌∷◌}
use Prim.Native.Nat.{ℕ, zero, suc, ◌+◌, ◌-◌, ◌*◌, ◌/◌, ◌<◌}
use native.Mathlib.Nat.{div-div-eq-div-mul, mul_comm}
use native.Mathlib.Omega.{arith}
use Rattle.tree.specs.Anchors.{side, rounded, bit_at}
use Rattle.tree.specs.Laws.{Sound}
use Rattle.tree.specs.Words.{position_at}
use Rattle.tree.proofs.Anchor.{side_suc, units_back, bit_lt}
use Rattle.prism.specs.declared.Prism.{Prism}
use Rattle.prism.specs.Elements.{prism_to, plan, parent, number}
use Rattle.prism.specs.Lawful.{lawful, grids}
use Rattle.triangle.specs.Elements as triangle
use Rattle.index.specs.Pencil.{row, type_above, page, page_of, row_for, base8, Pencil}
use Rattle.index.proofs.InRoot.{type_above_lem, ends_0, ends_1}

module _ (L : ℕ) where
  -- the digits before the last count the parent's sides
  half : (l x : ℕ) → l < L → x / side L (suc l) / 2 ≡ rounded L l x / side L l
  half l x room =
      div-div-eq-div-mul x (side L (suc l)) 2
      ∙ ap (λ (h : ℕ). x / h) (mul_comm (side L (suc l)) 2 ∙ sym (side_suc L l room))
      ∙ sym (units_back L l (x / side L l))

  module _ (l : ℕ) (e : Prism) (sound : Sound (prism_to L) e) (level : e.level ≡ suc l) where
    up_level : e.level - 1 ≡ l
    up_level = omega arith

    type_up : type_above (bit_at L e.level e.x) (bit_at L e.level e.y) e.kind ≡ (parent L e).kind
    unfolding prism_to
    type_up = type_above_lem _ _ e.kind (bit_lt L e.level e.x) (bit_lt L e.level e.y) (grids L e sound).0.typed

    -- a coordinate's digits before the last
    before : (x : ℕ) → x / side L e.level / 2 ≡ rounded L (e.level - 1) x / side L (e.level - 1)
    unfolding prism_to
    before x =
        ap (λ (m : ℕ). x / side L m / 2) level
        ∙ half l x (omega (arith, (grids L e sound).0.shallow))
        ∙ ap (λ (m : ℕ). rounded L m x / side L m) (sym up_level)

    own_row : page_of L e ≡ row_for L e ∷ page_of L (parent L e)
    unfolding page
    own_row =
        let h = side L e.level in
        ap (λ (m : ℕ). page m (e.x / h) (e.y / h) (e.z / h) e.kind) level
        ∙ ap₂ ◌∷◌
        (ap₂
        (λ (m a : ℕ). row m (bit_at L e.level e.x) (bit_at L e.level e.y) (bit_at L e.level e.z) e.kind (triangle.number L (plan e)) (number L e) a)
        (sym level) type_up)
        (λ i. page (sym up_level i) (before e.x i) (before e.y i) (before e.z i) (type_up i))

  gives : (l : ℕ) (e : Prism) → Sound (prism_to L) e → e.level ≡ l → position_at (prism_to L) l e ≡ base8 (page_of L e)
  unfolding position_at page base8 prism_to
  gives zero e sound level =
      let h = side L e.level in
      ap (λ (m : ℕ). base8 (page m (e.x / h) (e.y / h) (e.z / h) e.kind)) (sym level)
  gives (suc l) e sound level =
      let up = (lawful L).parent_sound e sound (omega arith) in
      ap (λ (above : ℕ). 8 * above + number L e) (gives l (parent L e) up (up_level l e sound level))
      ∙ sym (ap base8 (own_row l e sound level))

pub pencil : (L : ℕ) → Pencil L
unfolding prism_to
pencil L =
    record {
      row_by_row = λ e sound deep. own_row L (e.level - 1) e sound (omega arith);
      gives_the_position = λ e sound. gives L e.level e sound refl;
      ends_with_type_0 = ends_0 L;
      ends_with_type_1 = ends_1 L;
    }
