-- The index as the thesis writes it: definition 15 for triangles and 22 for prisms, with the definitions 8, 9, 14 and 19 that
-- they rest on. L is the highest level. Definitions only.
--
--   bit j x              x's binary place j, place 0 the lowest (definition 9)
--   ancestor S l e       the ancestor of level l, by the paper's own parent, level after level
--   types S kind e j     place j of B: "the types of T's ancestors in the first l entries, beginning with T^1; the last L - l entries
--                        are zeros" (definitions 14 and 19). The first entry, of level 1, is the highest place, L - 1
--   overlaid ts L        tuples of L places laid over each other: "(a1_(L-1), a2_(L-1), .., a1_0, a2_0)" (definition 8), read as a
--                        binary number
--   prism_index L e      definition 22: Z, Y, X and B laid over each other
--   triangle_index L e   definition 15: Y, X and B
--   line_index e         a line by its x
--
-- Assumes nothing.
use Rattle.std.specs.Prelude.{cond, List, [], ◌∷◌, ℕ, zero, suc, ◌+◌, ◌-◌, ◌*◌, ◌/◌, ◌%◌, ◌^◌, leb, length}
use Rattle.tree.specs.Shape.{Shape}
use Rattle.tree.specs.Ancestors.{up}
use Rattle.line.specs.declared.Line.{Line}
use Rattle.triangle.specs.declared.Triangle.{Triangle}
use Rattle.triangle.specs.Elements.{triangle_to}
use Rattle.prism.specs.declared.Prism.{Prism}
use Rattle.prism.specs.Elements.{prism_to}

abbrev pub bit : ℕ → ℕ → ℕ
bit j x = x / 2 ^ j % 2

module _ {E : Type 0} (S : Shape E) where
  abbrev pub ancestor : ℕ → E → E
  ancestor l e = up S (S.level e - l) e

  unfoldable pub types : (E → ℕ) → E → ℕ → ℕ
  types kind e j = cond (leb (S.highest - j) (S.level e)) (kind (ancestor (S.highest - j) e)) 0

-- the digits of all tuples at place j, those of the first tuple highest
unfoldable pub group : List (ℕ → ℕ) → ℕ → ℕ
group [] j = 0
group (a ∷ rest) j = a j * 2 ^ length rest + group rest j

-- the places below k
unfoldable pub overlaid : List (ℕ → ℕ) → ℕ → ℕ
overlaid ts zero = 0
overlaid ts (suc k) = group ts k * 2 ^ (length ts * k) + overlaid ts k

abbrev pub prism_index : ℕ → Prism → ℕ
prism_index L e =
    overlaid
    ((λ j. bit j e.z) ∷ (λ j. bit j e.y) ∷ (λ j. bit j e.x) ∷ types (prism_to L) (λ f. f.kind) e ∷ [])
    L

abbrev pub triangle_index : ℕ → Triangle → ℕ
triangle_index L e =
    overlaid ((λ j. bit j e.y) ∷ (λ j. bit j e.x) ∷ types (triangle_to L) (λ f. f.kind) e ∷ []) L

abbrev pub line_index : Line → ℕ
line_index e = e.x
