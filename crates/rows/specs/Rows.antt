-- Document 01, "Elements": its tables, an entry being (x step, y step, type); and document 02's rule for the number of a triangle among its
-- siblings. Definitions only.
--
--   step x y t           an entry
--   child_row t i        "Children of a triangle by curve number, each as (x step, y step, type), a step being half the parent's side, two
--                        rows of four": child i of a parent of type t
--   number_of s          document 02, ticket 3: "the number of a triangle among its siblings shall be worked out as: 0 when neither anchor bit
--                        at its level is set, 3 when both are, and otherwise 1 plus its type". The step s that leads to a triangle from its
--                        parent's anchor has the two bits and the type (`step_to`, `triangle/specs/Elements.antt`). That the number is its place
--                        in the parent's row is a law (`Siblings.antt`)
--   parent_kind s        the type of the parent in whose row the step s stands; slot_of s is the two together
--   face_row t i         "Face neighbours": the neighbour across face i of a triangle of type t; its steps are minus, stay or plus
--   prism_face_row t i   the same for a prism, as (x step, y step, z step, type). A prism's neighbour itself is defined by the triangle's
--                        and the line's (`prism/specs/Elements.antt`); that these rows follow them is a law (`prism/proofs/Across.antt`)
--
-- Assumes nothing.
use Rattle.std.specs.Prelude.{Bool, false, cond, ◌&&◌, ◌||◌, List, [], ◌∷◌, ℕ, ◌+◌, eqb, get_or}
use Rattle.tree.specs.Anchors.{minus, stay, plus}
use Rattle.rows.specs.declared.Step.{Step}
use Rattle.rows.specs.declared.Slot.{Slot}
use Rattle.rows.specs.declared.PrismStep.{PrismStep}

abbrev pub step : ℕ → ℕ → ℕ → Step
step x y t = record { x = x; y = y; kind = t }

-- | Parent type | 0 | 1 | 2 | 3 |
-- | 0 | 0,0,0 | 1,0,0 | 1,0,1 | 1,1,0 |
-- | 1 | 0,0,1 | 0,1,0 | 0,1,1 | 1,1,1 |
abbrev pub child_rows : List (List Step)
child_rows =
    (step 0 0 0 ∷ step 1 0 0 ∷ step 1 0 1 ∷ step 1 1 0 ∷ [])
    ∷ (step 0 0 1 ∷ step 0 1 0 ∷ step 0 1 1 ∷ step 1 1 1 ∷ [])
    ∷ []

-- entry i of row t
abbrev entry : List (List Step) → ℕ → ℕ → Step
entry table t i = get_or (get_or table t []) i (step 0 0 0)

abbrev pub child_row : ℕ → ℕ → Step
child_row t i = entry child_rows t i

-- whether neither, and whether both, of the anchor's bits at the triangle's level are set
abbrev neither : Step → Bool
neither s = eqb s.x 0 && eqb s.y 0

abbrev both : Step → Bool
both s = eqb s.x 1 && eqb s.y 1

unfoldable pub number_of : Step → ℕ
number_of s = cond (neither s) 0 (cond (both s) 3 (1 + s.kind))

same_step : Step → Step → Bool
same_step r s = eqb r.x s.x && (eqb r.y s.y && eqb r.kind s.kind)

stands_in : List Step → Step → Bool
stands_in [] s = false
stands_in (r ∷ row) s = same_step r s || stands_in row s

unfoldable pub parent_kind : Step → ℕ
unfolding stands_in same_step
parent_kind s = cond (stands_in (get_or child_rows 0 []) s) 0 1

abbrev pub slot_of : Step → Slot
slot_of s = record { kind = parent_kind s; number = number_of s }

-- | Type | 0 | 1 | 2 |
-- | 0 | x+h, type 1 | type 1 | y-h, type 1 |
-- | 1 | y+h, type 0 | type 0 | x-h, type 0 |
abbrev pub face_rows : List (List Step)
face_rows =
    (step plus stay 1 ∷ step stay stay 1 ∷ step stay minus 1 ∷ [])
    ∷ (step stay plus 0 ∷ step stay stay 0 ∷ step minus stay 0 ∷ [])
    ∷ []

abbrev pub face_row : ℕ → ℕ → Step
face_row t i = entry face_rows t i

abbrev pub prism_step : ℕ → ℕ → ℕ → ℕ → PrismStep
prism_step x y z t = record { x = x; y = y; z = z; kind = t }

-- faces 0 to 2 as above; face 3 is z-h, face 4 is z+h, same type
abbrev pub prism_face_rows : List (List PrismStep)
prism_face_rows =
    (prism_step plus stay stay 1 ∷ prism_step stay stay stay 1 ∷ prism_step stay minus stay 1
    ∷ prism_step stay stay minus 0 ∷ prism_step stay stay plus 0 ∷ [])
    ∷ (prism_step stay plus stay 0 ∷ prism_step stay stay stay 0 ∷ prism_step minus stay stay 0
    ∷ prism_step stay stay minus 1 ∷ prism_step stay stay plus 1 ∷ [])
    ∷ []

abbrev pub prism_face_row : ℕ → ℕ → PrismStep
prism_face_row t i = get_or (get_or prism_face_rows t []) i (prism_step 0 0 0 0)
