-- The old rule is today's rule on the line with its gap filled; and where the old rule accepts, that line is what is printed. Assumes nothing.
use mathlib.Core.Path.{◌≡◌, refl, ap, ap₂, ◌∙◌, sym}
use mathlib.Core.Bool.{Bool, true, false}
use mathlib.Core.List.{List, []}
use Prim.Native.Nat.{ℕ}
use native.Mathlib.Omega.{arith}
use lib.Dec.{leb}
use lib.ListN.{length, get_or, set, length-set}
use lib.Seq.{set_out, set-get_or}
use borrow.Author.Tests.{leb-true, leb-false}
use Rattle.paper.specs.Outcome.{Outcome, accepted, refused}
use Rattle.fields.specs.Fields.{fields, ended}
use Rattle.fields.proofs.Values.{number_parts}
use Rattle.forms.specs.declared.Form.{Form}
use Rattle.forms.specs.Forms.{given, in_order, read}
use Rattle.forms.proofs.Accepting.{form_whole, form_number}
use Rattle.text.specs.Text.{refusal_line}
use Rattle.converter.specs.Converter.{seventh, as_meant, old_read, line, unless_refused, converted}
use Rattle.converter.specs.Laws.{Empty}
use Rattle.converter.specs.Inner.{gap, filled}
use Rattle.converter.proofs.Filling.{seventh_some, Fills, fills}
use Rattle.converter.proofs.Lines.{line_fields}

module _ (s : List ℕ) where
  -- the line with its gap filled
  abbrev pub full : List ℕ
  full = filled s (gap s)

  abbrev there : Fills 6 s full
  there = fills 6 s

  pub old_read_lem : read full ≡ old_read s
  old_read_lem = ap₂ in_order there.same_fields there.same_end

  -- a field seven that is missing or filled is as it was meant
  pub meant_same : (Empty s → ⊥) → as_meant (fields s) ≡ fields s
  meant_same some = by_length (leb (length (fields s)) 6) refl
    where
      by_length : (t : Bool) → leb (length (fields s)) 6 ≡ t → as_meant (fields s) ≡ fields s
      by_length true e = set_out (fields s) 6 (seventh (get_or (fields s) 6 [])) (leb-true (length (fields s)) 6 e)
      by_length false e =
          ap (set (fields s) 6) (seventh_some (get_or (fields s) 6 []) (λ none. some (leb-false (length (fields s)) 6 e, none))) ∙ set-get_or (fields s) 6 []

  pub filled_same : (Empty s → ⊥) → read s ≡ old_read s
  filled_same some = sym (ap (λ (fs : List (List ℕ)). in_order fs (ended s)) (meant_same some))

  module _ (f : Form) (is : old_read s ≡ accepted f) where
    pub full_read : read full ≡ accepted f
    full_read = old_read_lem ∙ is

    pub old_ended : ended s ≡ true
    old_ended = sym there.same_end ∙ (form_whole full f full_read).1

    pub old_seven : length (fields s) ≡ 7
    old_seven = sym (ap length there.same_fields ∙ length-set (fields s) 6 (seventh (get_or (fields s) 6 []))) ∙ (form_whole full f full_read).0

    pub meant_line : converted s ≡ line (as_meant (fields s))
    meant_line = ap (λ (o : Outcome Form). unless_refused o (line (as_meant (fields s)))) is

    pub converted_full : converted s ≡ full
    converted_full = meant_line ∙ ap line (sym there.same_fields) ∙ line_fields full (form_whole full f full_read).1

    pub converted_same : (Empty s → ⊥) → converted s ≡ s
    converted_same some = meant_line ∙ ap line (meant_same some) ∙ line_fields s old_ended

  pub converted_refused : (number field : ℕ) → old_read s ≡ refused number field → converted s ≡ refusal_line number field
  converted_refused number field is = ap (λ (o : Outcome Form). unless_refused o (line (as_meant (fields s)))) is

  -- the order program accepts no empty field seven
  pub accepted_some : (f : Form) → read s ≡ accepted f → Empty s → ⊥
  accepted_some f is none =
      let number = number_parts (given (fields s) 7) (form_number s f is 7 (omega arith) (omega arith)) in
      omega (arith, number.some, ap length none.1)
