-- All that is promised of the converter. Assumes nothing.
use mathlib.Core.Path.{◌≡◌, ap, ap₂, ◌∙◌, sym}
use mathlib.Core.Bool.{true}
use mathlib.Core.List.{List, [], ◌∷◌, ◌++◌}
use Prim.Native.Nat.{ℕ, ◌-◌, ◌≤◌}
use native.Mathlib.Omega.{arith}
use lib.ListN.{length, get_or, set, take, drop, length-append}
use lib.Seq.{get_or-take, take_at, drop_at}
use borrow.Author.Tests.{le-leb}
use Rattle.paper.specs.Outcome.{accepted, refused}
use Rattle.fields.specs.Fields.{lf, fields, is_digit, all_digits, is_number}
use Rattle.fields.specs.Inner.{piece}
use Rattle.fields.proofs.Cutting.{cut}
use Rattle.fields.proofs.Values.{all_parts, number_parts}
use Rattle.forms.specs.declared.Form.{Form}
use Rattle.forms.specs.Forms.{given, read}
use Rattle.forms.proofs.Accepting.{form_number}
use Rattle.text.specs.Text.{printed}
use Rattle.converter.specs.Converter.{two, seventh, old_read, line, converted}
use Rattle.converter.specs.Laws.{Empty, Rewritten, Refused, Promised}
use Rattle.converter.proofs.Meaning.{empty_meant_2}
use Rattle.converter.proofs.Lines.{line_fields, ends}
use Rattle.converter.proofs.Old.{full_read, filled_same, old_ended, old_seven, meant_line, converted_full, converted_same, converted_refused, accepted_some}
use Rattle.converter.proofs.Bounds.{converted_few, converted_first}
use Rattle.converter.proofs.NewRule.{new_rule}

-- ---- the first byte
first_digit : (f : List ℕ) → all_digits f ≡ true → 1 ≤ length f → is_digit (get_or f 0 0) ≡ true
first_digit [] all some = absurd (omega arith)
first_digit (b ∷ f) all some = let d = all_parts b f all in simp (le-leb 48 b d.0, le-leb b 57 d.1)

begins_with_digit : (s : List ℕ) (f : Form) → read s ≡ accepted f → is_digit (get_or s 0 0) ≡ true
begins_with_digit s f is =
    let one : given (fields s) 1 ≡ piece s = ap (λ (fs : List (List ℕ)). get_or fs 0 []) (cut s).first in
    let number = number_parts (piece s) (ap is_number (sym one) ∙ form_number s f is 1 (omega arith) (omega arith)) in
    let same : get_or (piece s) 0 0 ≡ get_or s 0 0 = ap (λ (t : List ℕ). get_or t 0 0) (sym (cut s).front) ∙ get_or-take (length (piece s)) s 0 0 (omega (arith, number.some)) in
    ap is_digit (sym same) ∙ first_digit (piece s) number.digits number.some

untouched : (s : List ℕ) (f : Form) → read s ≡ accepted f → converted s ≡ s
untouched s f is = let some = accepted_some s f is in converted_same s f (sym (filled_same s some) ∙ is) some

-- ---- a line that the old program accepted
module _ (s : List ℕ) (f : Form) (is : old_read s ≡ accepted f) where
  accepts : read (converted s) ≡ accepted f
  accepts = ap read (converted_full s f is) ∙ full_read s f is

  with_two : Empty s → converted s ≡ take (length s - 1) s ++ (two ∷ drop (length s - 1) s)
  with_two none =
      let e = ends (fields s) 6 (old_seven s f is) none.1 in
      let whole : s ≡ e.before ++ (lf ∷ []) = sym (line_fields s (old_ended s f is)) ∙ e.empty in
      let size : length e.before ≡ length s - 1 = omega (arith, ap length whole, length-append e.before (lf ∷ [])) in
      let front : take (length s - 1) s ≡ e.before = ap (take (length s - 1)) whole ∙ take_at e.before (lf ∷ []) (length s - 1) size in
      let last : drop (length s - 1) s ≡ lf ∷ [] = ap (drop (length s - 1)) whole ∙ drop_at e.before (lf ∷ []) (length s - 1) size in
      meant_line s f is
      ∙ ap (λ (g : List ℕ). line (set (fields s) 6 (seventh g))) none.1
      ∙ e.with_field (two ∷ [])
      ∙ ap₂ (λ (t u : List ℕ). t ++ (two ∷ u)) (sym front) (sym last)

  rewrites : Rewritten s f
  rewrites =
      record {
        accepts = accepts;
        prints = ap printed (accepts ∙ sym is);
        again = untouched (converted s) f accepts;
        filled = converted_same s f is;
        empty = with_two;
        digit = begins_with_digit (converted s) f accepts;
      }

refuses : (s : List ℕ) (number field : ℕ) → old_read s ≡ refused number field → Refused s number field
refuses s number field is =
    let said = converted_refused s number field is in
    record { refusal = said; as_before = ap printed is; letter = ap (λ (t : List ℕ). get_or t 0 0) said }

pub promised : Promised
promised =
    record {
      empty_meant_2 = empty_meant_2;
      new_rule = new_rule;
      rewrites = rewrites;
      refuses = refuses;
      untouched = untouched;
      first_bytes = converted_first;
      room = converted_few;
    }
