-- A triangle's face is two points. In each of the six entries of the face rows the neighbour's two are the same, and whoever else has the two
-- is of the other type, has the face by the other number, and lies where the row says. Assumes nothing.
use mathlib.Core.Path.{◌≡◌, refl, ap, ◌∙◌, sym}
use mathlib.Core.Logic.{◌⊎◌, inl, inr}
use mathlib.Core.List.{List, [], ◌∷◌}
use Prim.Native.Nat.{ℕ, zero, suc, ◌+◌, ◌-◌, ◌*◌, ◌<◌}
use native.Mathlib.Omega.{arith}
use lib.ListN.{get_or}
use Rattle.tree.specs.Anchors.{side}
use Rattle.tree.proofs.Anchor.{side_pos}
use Rattle.tree.proofs.Cases.{below_2}
use Rattle.rows.specs.Rows.{face_row}
use Rattle.rows.proofs.Tables.{each_face}
use Rattle.triangle.specs.declared.Triangle.{Triangle}
use Rattle.triangle.specs.Points.{Point, point, face_points}
use Rattle.triangle.specs.Lawful.{Known, triangle_path}

pair_path : {a b c d a' b' c' d' : ℕ} → a ≡ a' → b ≡ b' → c ≡ c' → d ≡ d' → ◌≡◌ {A = List Point} (point a b ∷ point c d ∷ []) (point a' b' ∷ point c' d' ∷ [])
pair_path p q r s = λ j. point (p j) (q j) ∷ point (r j) (s j) ∷ []

-- two faces agree, coordinate by coordinate
abbrev pub Agree : List Point → List Point → Type 0
Agree a b =
    let o = point 0 0 in
    ((get_or a 0 o).x ≡ (get_or b 0 o).x) × (((get_or a 0 o).y ≡ (get_or b 0 o).y) × (((get_or a 1 o).x ≡ (get_or b 1 o).x) × ((get_or a 1 o).y ≡ (get_or b 1 o).y)))

pub agree : (a b : List Point) → a ≡ b → Agree a b
agree a b same =
    let o = point 0 0 in
    let first_x = ap (λ (l : List Point). (get_or l 0 o).x) same in
    let first_y = ap (λ (l : List Point). (get_or l 0 o).y) same in
    (first_x, (first_y, (ap (λ (l : List Point). (get_or l 1 o).x) same, ap (λ (l : List Point). (get_or l 1 o).y) same)))

-- ---- a triangle at (x, y) and one at (x', y'), of one level
module _ (L l x y x' y' : ℕ) where
  abbrev h : ℕ
  h = side L l

  abbrev one : ℕ → Triangle
  one t = record { x = x; y = y; level = l; kind = t }

  abbrev two : ℕ → Triangle
  two t = record { x = x'; y = y'; level = l; kind = t }

  -- where the row says, the face is shared
  pub meeting : (t i : ℕ) → t < 2 → i < 3 → x' + h ≡ x + (face_row t i).x * h → y' + h ≡ y + (face_row t i).y * h
      → face_points L (one t) i ≡ face_points L (two (face_row t i).kind) (2 - i)
  meeting =
      each_face
      (λ (t i : ℕ). x' + h ≡ x + (face_row t i).x * h → y' + h ≡ y + (face_row t i).y * h
      → face_points L (one t) i ≡ face_points L (two (face_row t i).kind) (2 - i))
      (λ far_x far_y. pair_path (omega arith) (omega arith) (omega arith) (omega arith))
      (λ far_x far_y. pair_path (omega arith) (omega arith) (omega arith) (omega arith))
      (λ far_x far_y. pair_path (omega arith) (omega arith) (omega arith) (omega arith))
      (λ far_x far_y. pair_path (omega arith) (omega arith) (omega arith) (omega arith))
      (λ far_x far_y. pair_path (omega arith) (omega arith) (omega arith) (omega arith))
      (λ far_x far_y. pair_path (omega arith) (omega arith) (omega arith) (omega arith))

  -- and where it is shared by the other type, it is as the row says
  pub meets : (t i : ℕ) → t < 2 → i < 3 → Agree (face_points L (one t) i) (face_points L (two (face_row t i).kind) (2 - i))
      → (x' + h ≡ x + (face_row t i).x * h) × (y' + h ≡ y + (face_row t i).y * h)
  meets =
      each_face
      (λ (t i : ℕ). Agree (face_points L (one t) i) (face_points L (two (face_row t i).kind) (2 - i))
      → (x' + h ≡ x + (face_row t i).x * h) × (y' + h ≡ y + (face_row t i).y * h))
      (omega arith) (omega arith) (omega arith) (omega arith) (omega arith) (omega arith)

  -- a face of its own number only the triangle itself has, of its own type
  pub itself : (t i : ℕ) → t < 2 → i < 3 → Agree (face_points L (one t) i) (face_points L (two t) i) → (x ≡ x') × (y ≡ y')
  itself =
      each_face (λ (t i : ℕ). Agree (face_points L (one t) i) (face_points L (two t) i) → (x ≡ x') × (y ≡ y'))
      (omega arith) (omega arith) (omega arith) (omega arith) (omega arith) (omega arith)

  -- the first two corners tell the anchor and the type
  told : 0 < h → (t s : ℕ) → t < 2 → s < 2 → Agree (face_points L (one t) 2) (face_points L (two s) 2) → (x ≡ x') × ((y ≡ y') × (t ≡ s))
  told positive t s kind other =
      let Told : ℕ → ℕ → Type 0 = λ u v. Agree (face_points L (one u) 2) (face_points L (two v) 2) → (x ≡ x') × ((y ≡ y') × (u ≡ v)) in
      below_2 (λ (u : ℕ). Told u s) (below_2 (Told 0) (omega arith) (omega arith) s other) (below_2 (Told 1) (omega arith) (omega arith) s other) t kind

-- so of one level they tell the triangle
pub triangle_told : (L : ℕ) (e f : Triangle) → Known L e → Known L f → e.level ≡ f.level → face_points L e 2 ≡ face_points L f 2 → e ≡ f
triangle_told L e f k j level same =
    let alike = same ∙ ap (λ (l : ℕ). face_points L (record { x = f.x; y = f.y; level = l; kind = f.kind }) 2) (sym level) in
    let here = told L e.level e.x e.y f.x f.y (side_pos L e.level) e.kind f.kind k.typed j.typed (agree _ _ alike) in
    triangle_path e f here.0 here.1.0 level here.1.1

-- ---- a face upright, slanting or level: numbers 0, 1, 2 of type 0, and 2, 1, 0 of type 1
abbrev pub slope : ℕ → ℕ → ℕ
slope zero i = i
slope (suc t) i = 2 - i

pub sloping : (L l x y : ℕ) (t i : ℕ) → t < 2 → i < 3
    → let o = point 0 0 in let ps = face_points L (record { x = x; y = y; level = l; kind = t }) i in
    (get_or ps 1 o).x + (get_or ps 0 o).y + side L l ≡ (get_or ps 0 o).x + (get_or ps 1 o).y + slope t i * side L l
sloping L l x y =
    each_face
    (λ (t i : ℕ). let o = point 0 0 in let ps = face_points L (record { x = x; y = y; level = l; kind = t }) i in
    (get_or ps 1 o).x + (get_or ps 0 o).y + side L l ≡ (get_or ps 0 o).x + (get_or ps 1 o).y + slope t i * side L l)
    (omega arith) (omega arith) (omega arith) (omega arith) (omega arith) (omega arith)

-- so a shared face has its own number in a triangle of the same type, and the other in one of the other
pub numbered : (t s i j : ℕ) → t < 2 → s < 2 → i < 3 → j < 3 → slope t i ≡ slope s j → ((t ≡ s) × (j ≡ i)) ⊎ ((t + s ≡ 1) × (j ≡ 2 - i))
numbered zero zero i j kind other small face same = inl (refl, sym same)
numbered zero (suc s) i j kind other small face same = inr (omega arith, omega arith)
numbered (suc t) zero i j kind other small face same = inr (omega arith, sym same)
numbered (suc t) (suc s) i j kind other small face same = inl (omega arith, omega arith)
