-- Document 01, "Elements" and "Refusal numbers": several prisms in lent columns, and the call on them. Definitions only.
--
--   Columns          the five columns, in the order of a prism's fields; columns makes them
--   equal_columns c  whether they are equally long
--   element c i      entry i of them
--   elements c       all of them
--   family c         the call: "Several elements (family, order of two) are checked in turn, place = index; unequal columns give 11 first"
--
-- Assumes nothing.
use Rattle.std.specs.Prelude.{Bool, ◌&&◌, List, ℕ, eqb, length, get_or}
use Rattle.paper.specs.Outcome.{Outcome, rows}
use Rattle.tree.specs.Calls
use Rattle.prism.specs.declared.Prism.{Prism}
use Rattle.prism.specs.Elements.{prism}

pub record Columns : Type 0 where
  pub x : List ℕ
  pub y : List ℕ
  pub z : List ℕ
  pub level : List ℕ
  pub kind : List ℕ

abbrev pub columns : List ℕ → List ℕ → List ℕ → List ℕ → List ℕ → Columns
columns xs ys zs levels kinds = record { x = xs; y = ys; z = zs; level = levels; kind = kinds }

abbrev pub equal_columns : Columns → Bool
equal_columns c =
    eqb (length c.x) (length c.y)
    && (eqb (length c.x) (length c.z)
    && (eqb (length c.x) (length c.level) && eqb (length c.x) (length c.kind)))

abbrev pub element : Columns → ℕ → Prism
element c i = record { x = get_or c.x i 0; y = get_or c.y i 0; z = get_or c.z i 0; level = get_or c.level i 0; kind = get_or c.kind i 0 }

abbrev pub elements : Columns → List Prism
elements c = rows (element c) 0 (length c.x)

abbrev pub family : Columns → Outcome Bool
family c = Calls.family prism (equal_columns c) (elements c)
