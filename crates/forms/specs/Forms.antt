-- Document 01, "Refusal numbers": "Order: fields left to right; too few, the first missing; too many, a missing LF or bytes after it, field 8.
-- Field four or six out of range is 17, field five above 21 is 1, too many leaves is 15 at field 7." Document 02, ticket 2: "An empty initial
-- level is refused, whatever the template says. .. 23 at field 7 for an empty one, in its present place." Definitions only.
--
--   given fs i          what stands in field i, counted from 1; a missing field reads like an empty one (`fault` looks for that first), and neither
--                       is a number
--   number_in fs i      the number in field i
--   outside i v K L     the refusal of the number v in field i, 0 where there is none; K and L are the numbers of fields four and five
--   number_fault        23 where a field is missing or is no number, else what else it has
--   fault fs i          the refusal of field i
--   form_in fs          the numbers of the first line, in its order
--   in_order fs whole   "fields left to right": the first of the seven with a refusal; then field 8, unless the line is whole, with no eighth field
--   read s              what the input s asks for: the form that is ordered, or its refusal with the field as place
--   longest_input       the first bytes, which decide: seven fields of nine digits, six semicolons, LF, and one byte more
--   form_of             the outcome that the result of `read` stands for
--
-- Assumes nothing.
use Rattle.std.specs.Prelude.{Bool, not, ◌&&◌, List, [], ℕ, ◌-◌, ◌*◌, ◌^◌, eqb, leb, ltb, length, get_or}
use Rattle.std.specs.declared.result.Result.{Result}
use Rattle.paper.specs.declared.Refusal.{Refusal}
use Rattle.paper.specs.Outcome.{Outcome, accepted, refuse_when_at, fault_when, scan, rows}
use Rattle.paper.specs.Refusals.{outcome_of}
use Rattle.tree.specs.Anchors.{HIGHEST}
use Rattle.leaves.specs.Leaves.{CHILDREN}
use Rattle.leaves.specs.Calls.{limit, out_of_range}
use Rattle.fields.specs.Fields.{fields, ended, is_number, value}
use Rattle.forms.specs.declared.Form.{Form}

abbrev pub given : List (List ℕ) → ℕ → List ℕ
given fs i = get_or fs (i - 1) []

abbrev pub number_in : List (List ℕ) → ℕ → ℕ
number_in fs i = value (given fs i)

abbrev pub outside : ℕ → ℕ → ℕ → ℕ → ℕ
outside i v K L =
    fault_when (eqb i 4 && out_of_range v) 17
    (fault_when (eqb i 5 && ltb HIGHEST v) 1
    (fault_when (eqb i 6 && out_of_range v) 17
    (fault_when (eqb i 7 && ltb L v) 23
    (fault_when (eqb i 7 && ltb limit (K * CHILDREN ^ v)) 15 0))))

abbrev pub number_fault : Bool → List ℕ → ℕ → ℕ
number_fault missing f rest = fault_when missing 23 (fault_when (not (is_number f)) 23 rest)

abbrev pub fault : List (List ℕ) → ℕ → ℕ
fault fs i = number_fault (leb (length fs) (i - 1)) (given fs i) (outside i (number_in fs i) (number_in fs 4) (number_in fs 5))

abbrev pub form_in : List (List ℕ) → Form
form_in fs =
    record {
      order = number_in fs 1;
      site = number_in fs 2;
      model = number_in fs 3;
      roots = number_in fs 4;
      level = number_in fs 7;
      leaves = number_in fs 4 * CHILDREN ^ number_in fs 7;
      shares = number_in fs 6;
    }

abbrev pub in_order : List (List ℕ) → Bool → Outcome Form
in_order fs whole =
    scan (fault fs) 1 (rows (λ i. i) 1 7)
    (refuse_when_at (not (eqb (length fs) 7 && whole)) 23 8
    (accepted (form_in fs)))

abbrev pub read : List ℕ → Outcome Form
read s = in_order (fields s) (ended s)

abbrev pub longest_input : ℕ
longest_input = 71

abbrev pub form_of : Result Form Refusal → Outcome Form
form_of r = outcome_of r
