-- docs/PENCIL.md, for document 02, ticket 3: "Geologists check our report with a pencil and don't want a lookup." A prism's position worked out
-- on a page, from its anchor in binary and its type, by the ticket's rule. L is the highest level. Definitions only.
--
--   Row, row       a row of the page: a level, the digits of x, y and z of that level, the type there, and what is worked out from them: the
--                  triangle's number, the prism's ("4 times the line number plus the triangle number"), the type above, which is the parent's
--   type_above x y t  the type itself where the digits of x and y agree, else the digit of y
--   row_of l x y z t  the row of level l, by its digits and its type
--   page l u v w t   the rows from level l up to level 1, of an anchor of u, v and w sides and a type t. The last binary digit of u is u % 2, the
--                  digits before it are those of u / 2
--   base8 rows       the position: the prism's numbers as the digits of a base-8 number, that of level 1 highest
--   at_root t rows   the type above level 1, of a page whose first row has type t; t itself where there is no row
--   page_of L e      the page of a prism: its anchor in sides of its level
--   row_for L e      its row, by what the library says of it: the anchor's bits at its level, its triangle's number and its own, its parent's type
--   Pencil L         of every valid prism: above level 0 its page is its row and then its parent's page; the page gives the position, and ends with
--                    type 0. Of one that is refused as outside the root it ends with type 1
--   example, Worked   the example of docs/PENCIL.md, row by row
--
-- Assumes nothing.
use Rattle.std.specs.Prelude.{◌≡◌, cond, List, [], ◌∷◌, ℕ, zero, suc, ◌+◌, ◌*◌, ◌/◌, ◌%◌, ◌<◌, eqb}
use Rattle.paper.specs.Outcome.{accepted}
use Rattle.tree.specs.Anchors.{HIGHEST, side, bit_at}
use Rattle.tree.specs.Laws.{Sound}
use Rattle.tree.specs.Words.{position}
use Rattle.rows.specs.Rows.{step, number_of}
use Rattle.prism.specs.declared.Prism.{Prism}
use Rattle.prism.specs.Elements.{prism, prism_to, plan, parent, number}
use Rattle.tree.specs.Calls as calls
use Rattle.triangle.specs.Elements as triangle

pub record Row : Type 0 where
  pub level : ℕ
  pub x_digit : ℕ
  pub y_digit : ℕ
  pub z_digit : ℕ
  pub kind : ℕ
  pub triangle_number : ℕ
  pub prism_number : ℕ
  pub type_above : ℕ

abbrev pub row : ℕ → ℕ → ℕ → ℕ → ℕ → ℕ → ℕ → ℕ → Row
row l x y z t n m a =
    record { level = l; x_digit = x; y_digit = y; z_digit = z; kind = t; triangle_number = n; prism_number = m; type_above = a }

abbrev pub type_above : ℕ → ℕ → ℕ → ℕ
type_above x y t = cond (eqb x y) t y

abbrev pub row_of : ℕ → ℕ → ℕ → ℕ → ℕ → Row
row_of l x y z t = row l x y z t (number_of (step x y t)) (4 * z + number_of (step x y t)) (type_above x y t)

unfoldable pub page : ℕ → ℕ → ℕ → ℕ → ℕ → List Row
page zero u v w t = []
page (suc l) u v w t =
    let r = row_of (suc l) (u % 2) (v % 2) (w % 2) t in
    r ∷ page l (u / 2) (v / 2) (w / 2) r.type_above

unfoldable pub base8 : List Row → ℕ
base8 [] = 0
base8 (r ∷ above) = 8 * base8 above + r.prism_number

unfoldable pub at_root : ℕ → List Row → ℕ
at_root t [] = t
at_root t (r ∷ above) = at_root r.type_above above

module _ (L : ℕ) where
  abbrev pub page_of : Prism → List Row
  page_of e = page e.level (e.x / side L e.level) (e.y / side L e.level) (e.z / side L e.level) e.kind

  abbrev pub row_for : Prism → Row
  row_for e =
      row e.level (bit_at L e.level e.x) (bit_at L e.level e.y) (bit_at L e.level e.z) e.kind
      (triangle.number L (plan e)) (number L e) (parent L e).kind

  pub record Pencil : Type 0 where
    pub row_by_row : (e : Prism) → Sound (prism_to L) e → 0 < e.level → page_of e ≡ row_for e ∷ page_of (parent L e)
    pub gives_the_position : (e : Prism) → Sound (prism_to L) e → position (prism_to L) e ≡ base8 (page_of e)
    pub ends_with_type_0 : (e : Prism) → Sound (prism_to L) e → at_root e.kind (page_of e) ≡ 0
    pub ends_with_type_1 : (e : Prism) → (prism_to L).fault e ≡ 4 → at_root e.kind (page_of e) ≡ 1

-- level 3, anchor 5, 3 and 6 sides of 262,144, type 0
abbrev pub example : Prism
example = record { x = 1310720; y = 786432; z = 1572864; level = 3; kind = 0 }

pub record Worked : Type 0 where
  -- level, digits of x, y and z, type, the triangle's number, the prism's, the type above
  pub rows : page_of HIGHEST example ≡ row 3 1 1 0 0 3 3 0 ∷ row 2 0 1 1 0 1 5 1 ∷ row 1 1 0 1 1 2 6 0 ∷ []
  pub sum : base8 (page_of HIGHEST example) ≡ 427
  pub there : calls.position prism example ≡ accepted 427
  pub back : calls.at prism 3 427 ≡ accepted example
