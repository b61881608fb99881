-- What is promised of the converter, and of the order program beside the old one, as statements. Definitions only.
--
--   Empty s          the line s has a field seven, and it is empty
--   EmptyMeant2      "Field seven may be empty and then means 2": after six fields t and their sixth semicolon, an empty field (u begins with a semicolon
--                    or LF, or is nothing) was decided as the order program decides the line with a 2 put in there
--   NewRule          "An empty initial level is refused .. 23 at field 7 for an empty one, in its present place": where field seven is not empty, the
--                    order program decides as the old one did; what the old one refused at a field before it, it refuses alike; else an empty field
--                    seven is 23 at field 7
--   Rewritten s f    what becomes of a line s that the old program accepted, with the form f: the order program accepts what the converter prints,
--                    with the same form, and prints on it what the old program printed on s; converted again it stays; where field seven was
--                    filled it is the line s itself; where it was empty it is s with a 2 put in before its last byte, the LF; and it begins with a
--                    digit, so that a script can tell a line from a refusal
--   Refused s n p    what is printed for a line s that the old program refused with the number n at the field p: that refusal and nothing else, which
--                    is what the old program printed; and it begins with the letter r
--   Promised         what an empty field seven meant; the new rule; every line that the old program accepted is rewritten, and every other gives its
--                    refusal; a line that the order program accepts is untouched; the first 71 bytes decide the output; no output is longer
--                    than 45 bytes
--
-- Assumes nothing.
use Rattle.std.specs.Prelude.{◌≡◌, true, List, [], ◌∷◌, ◌++◌, ℕ, ◌-◌, ◌≤◌, ◌<◌, length, get_or, take, drop}
use Rattle.paper.specs.Outcome.{accepted, refused}
use Rattle.fields.specs.Fields.{semicolon, fields, is_digit}
use Rattle.forms.specs.declared.Form.{Form}
use Rattle.forms.specs.Forms.{given, read, longest_input}
use Rattle.text.specs.Text.{refusal_line}
use Rattle.orders.specs.Calls.{output}
use Rattle.converter.specs.Converter.{two, old_read, old_output, converted, longest_line}

abbrev pub Empty : List ℕ → Type 0
Empty s = (7 ≤ length (fields s)) × (given (fields s) 7 ≡ [])

abbrev pub EmptyMeant2 : Type 0
EmptyMeant2 =
    (t u : List ℕ) → length (fields t) ≡ 6 → length (fields (t ++ (semicolon ∷ []))) ≡ 7 → given (fields u) 1 ≡ []
    → old_read (t ++ (semicolon ∷ u)) ≡ read (t ++ (semicolon ∷ two ∷ u))

pub record NewRule : Type 0 where
  pub filled : (s : List ℕ) → (Empty s → ⊥) → read s ≡ old_read s
  pub one_to_six : (s : List ℕ) (number field : ℕ) → old_read s ≡ refused number field → field < 7 → read s ≡ refused number field
  pub seven : (s : List ℕ) → Empty s → ((number field : ℕ) → old_read s ≡ refused number field → 7 ≤ field) → read s ≡ refused 23 7

pub record Rewritten (s : List ℕ) (f : Form) : Type 0 where
  pub accepts : read (converted s) ≡ accepted f
  pub prints : output (converted s) ≡ old_output s
  pub again : converted (converted s) ≡ converted s
  pub filled : (Empty s → ⊥) → converted s ≡ s
  pub empty : Empty s → converted s ≡ take (length s - 1) s ++ (two ∷ drop (length s - 1) s)
  pub digit : is_digit (get_or (converted s) 0 0) ≡ true

pub record Refused (s : List ℕ) (number field : ℕ) : Type 0 where
  pub refusal : converted s ≡ refusal_line number field
  pub as_before : old_output s ≡ refusal_line number field
  pub letter : get_or (converted s) 0 0 ≡ 114

pub record Promised : Type 0 where
  pub empty_meant_2 : EmptyMeant2
  pub new_rule : NewRule
  pub rewrites : (s : List ℕ) (f : Form) → old_read s ≡ accepted f → Rewritten s f
  pub refuses : (s : List ℕ) (number field : ℕ) → old_read s ≡ refused number field → Refused s number field
  pub untouched : (s : List ℕ) (f : Form) → read s ≡ accepted f → converted s ≡ s
  pub first_bytes : (s : List ℕ) → converted (take longest_input s) ≡ converted s
  pub room : (s : List ℕ) → length (converted s) ≤ longest_line
