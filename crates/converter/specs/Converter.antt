-- Document 02, ticket 2: "Our standing orders and the night script both leave it empty and mean 2; .. a small converter rewrites stored order
-- lines, one a run, leaving filled ones untouched. The converter accepts an empty field seven by the old rule and prints the old refusal for a line
-- the old program refused." The old rule, document 01: "Field seven may be empty and then means 2; no other may be. Given or meant, it may not
-- exceed field five". Definitions only.
--
--   two              the digit 2
--   seventh f        what field seven meant by the old rule: an empty one 2
--   as_meant fs      the fields fs as they were meant: field seven, where there is one, as what it meant, every other as it is
--   old_read s       what the input s asked for by the old rule: its fields as they were meant, read by the rules that did not change
--                    (`in_order`, `forms/specs/Forms.antt`)
--   old_output s     what the old program printed on s
--   line fs          the line of the fields fs: single semicolons between them, and one LF
--   unless_refused   the line t; for a refusal its line of refusal
--   converted s      what the converter prints on s: the line of the fields as they were meant, unless the old rule refuses
--   longest_line     no output is longer: 38 digits in seven fields, six semicolons and LF (reached)
--
-- Assumes nothing.
use Rattle.std.specs.Prelude.{List, [], ◌∷◌, ◌++◌, ℕ, get_or, set}
use Rattle.paper.specs.Outcome.{Outcome, accepted, refused}
use Rattle.fields.specs.Fields.{lf, semicolon, fields, ended}
use Rattle.forms.specs.declared.Form.{Form}
use Rattle.forms.specs.Forms.{in_order}
use Rattle.text.specs.Text.{refusal_line, printed}

abbrev pub two : ℕ
two = 50

abbrev pub seventh : List ℕ → List ℕ
seventh [] = two ∷ []
seventh (b ∷ f) = b ∷ f

-- field seven is entry 6 of the fields
abbrev pub as_meant : List (List ℕ) → List (List ℕ)
as_meant fs = set fs 6 (seventh (get_or fs 6 []))

abbrev pub old_read : List ℕ → Outcome Form
old_read s = in_order (as_meant (fields s)) (ended s)

abbrev pub old_output : List ℕ → List ℕ
old_output s = printed (old_read s)

unfoldable pub line : List (List ℕ) → List ℕ
line [] = lf ∷ []
line (f ∷ []) = f ++ (lf ∷ [])
line (f ∷ (g ∷ fs)) = f ++ (semicolon ∷ line (g ∷ fs))

abbrev pub unless_refused : Outcome Form → List ℕ → List ℕ
unless_refused (accepted f) t = t
unless_refused (refused number field) t = refusal_line number field

abbrev pub converted : List ℕ → List ℕ
converted s = unless_refused (old_read s) (line (as_meant (fields s)))

abbrev pub longest_line : ℕ
longest_line = 45
