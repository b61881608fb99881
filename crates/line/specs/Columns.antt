-- Document 01, "Elements" and "Refusal numbers": several lines in lent columns, and the call on them. Definitions only.
--
--   Columns          the two columns, in the order of a line's fields; columns makes them
--   equal_columns c  whether they are equally long
--   element c i      entry i of them
--   elements c       all of them
--   family c         the call: "Several elements (family, order of two) are checked in turn, place = index; unequal columns give 11 first"
--
-- Assumes nothing.
use Rattle.std.specs.Prelude.{Bool, List, ℕ, eqb, length, get_or}
use Rattle.paper.specs.Outcome.{Outcome, rows}
use Rattle.tree.specs.Calls
use Rattle.line.specs.declared.Line.{Line}
use Rattle.line.specs.Elements.{line}

pub record Columns : Type 0 where
  pub x : List ℕ
  pub level : List ℕ

abbrev pub columns : List ℕ → List ℕ → Columns
columns xs levels = record { x = xs; level = levels }

abbrev pub equal_columns : Columns → Bool
equal_columns c = eqb (length c.x) (length c.level)

abbrev pub element : Columns → ℕ → Line
element c i = record { x = get_or c.x i 0; level = get_or c.level i 0 }

abbrev pub elements : Columns → List Line
elements c = rows (element c) 0 (length c.x)

abbrev pub family : Columns → Outcome Bool
family c = Calls.family line (equal_columns c) (elements c)
