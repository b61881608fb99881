-- A line that the old rule accepts is short, so the first bytes decide what is printed, and no output is long. Assumes nothing.
use mathlib.Core.Path.{◌≡◌, refl, ap, ◌∙◌, sym}
use mathlib.Core.Bool.{Bool, true, false}
use mathlib.Core.List.{List, [], ◌∷◌, Memᴰ}
use Prim.Native.Nat.{ℕ, zero, suc, ◌*◌, ◌^◌, ◌≤◌, ◌<◌}
use native.Mathlib.Omega.{arith}
use lib.Dec.{ltb}
use lib.ListN.{length, get_or, take, drop, length-append, length-take, length-drop}
use lib.Seq.{take_all}
use borrow.Author.Tests.{ltb-true, ltb-false}
use Rattle.paper.specs.Outcome.{Outcome, accepted, refused}
use Rattle.fields.specs.Fields.{lf, fields, ended}
use Rattle.fields.proofs.FirstBytes.{Alike, same, long, more, over, alike_take}
use Rattle.forms.specs.declared.Form.{Form}
use Rattle.forms.specs.Forms.{given, number_in, form_in, read, longest_input}
use Rattle.forms.proofs.Accepting.{form_whole, form_number, form_highest}
use Rattle.forms.proofs.Bounds.{Orderly, form_clean, in_range_lem}
use Rattle.forms.proofs.Enough.{read_alike}
use Rattle.forms.proofs.Ranges.{deep_many}
use Rattle.forms.proofs.Refusals.{read_refused}
use Rattle.text.specs.Text.{blank, decimal, counted, entry, word_refused, word_field, refusal_line}
use Rattle.text.proofs.Decimals.{decimal_few}
use Rattle.text.proofs.Repeating.{decimal_value}
use Rattle.converter.specs.Converter.{two, seventh, as_meant, old_read, converted, longest_line}
use Rattle.converter.specs.Inner.{gap, filled}
use Rattle.converter.proofs.Filling.{meant_at}
use Rattle.converter.proofs.Lines.{line_fields, whole, line_few}
use Rattle.converter.proofs.Old.{full, old_read_lem, full_read, converted_full, converted_refused}

-- ---- the fields of an order that is accepted
module _ (s : List ℕ) (f : Form) (is : read s ≡ accepted f) where
  -- a number below 10^k has at most k digits
  field_few : (i k : ℕ) → 1 ≤ i → i ≤ 7 → 1 ≤ k → number_in (fields s) i < 10 ^ k → length (given (fields s) i) ≤ k
  field_few i k low high some below =
      let written = decimal_value (given (fields s) i) (form_number s f is i low high) in
      omega (arith, ap length written, decimal_few k (number_in (fields s) i) some below)

  kept : Orderly (form_in (fields s))
  kept = in_range_lem (fields s) (form_clean s f is)

  -- seven levels have too many leaves
  level_low : number_in (fields s) 7 < 10
  level_low = by_test (ltb 6 (number_in (fields s) 7)) refl
    where
      by_test : (t : Bool) → ltb 6 (number_in (fields s) 7) ≡ t → number_in (fields s) 7 < 10
      by_test true e =
          let few = kept.few_leaves in
          let many = ltb-true 1048576 (number_in (fields s) 4 * 8 ^ number_in (fields s) 7) (deep_many (number_in (fields s) 4) (number_in (fields s) 7) (λ none. omega (arith, none, kept.some_root)) (ltb-true 6 _ e)) in
          absurd (omega arith)
      by_test false e = omega (arith, ltb-false 6 (number_in (fields s) 7) e)

  -- how long each field may be
  abbrev digits : List ℕ
  digits = 9 ∷ 9 ∷ 9 ∷ 4 ∷ 2 ∷ 4 ∷ 1 ∷ []

  each_few : (i : ℕ) → i < 7 → length (get_or (fields s) i []) ≤ get_or digits i 0
  each_few zero low = field_few 1 9 (omega arith) (omega arith) (omega arith) kept.short_order
  each_few (suc zero) low = field_few 2 9 (omega arith) (omega arith) (omega arith) kept.short_site
  each_few (suc (suc zero)) low = field_few 3 9 (omega arith) (omega arith) (omega arith) kept.short_model
  each_few (suc (suc (suc zero))) low = field_few 4 4 (omega arith) (omega arith) (omega arith) (omega (arith, kept.few_roots))
  each_few (suc (suc (suc (suc zero)))) low = field_few 5 2 (omega arith) (omega arith) (omega arith) (omega (arith, form_highest s f is))
  each_few (suc (suc (suc (suc (suc zero))))) low = field_few 6 4 (omega arith) (omega arith) (omega arith) (omega (arith, kept.few_shares))
  each_few (suc (suc (suc (suc (suc (suc zero)))))) low = field_few 7 1 (omega arith) (omega arith) (omega arith) (omega (arith, level_low))
  each_few (suc (suc (suc (suc (suc (suc (suc i))))))) low = absurd (omega arith)

  pub accepted_few : length s ≤ longest_line
  accepted_few =
      let whole_line = form_whole s f is in
      let few = line_few (fields s) digits whole_line.0 (omega arith) each_few in
      omega (arith, ap length (line_fields s whole_line.1))

-- ---- what is printed
-- the 2 makes a line longer
full_longer : (s : List ℕ) (at : ℕ) → length s ≤ length (filled s at)
full_longer s at = by_test (ltb (length s) at) refl
  where
    by_test : (t : Bool) → ltb (length s) at ≡ t → length s ≤ length (filled s at)
    by_test true e = simp e (omega arith)
    by_test false e = simp e (omega (arith, length-append (take at s) (two ∷ drop at s), length-take at s, length-drop at s))

-- a refusal has a number of at most two digits and a field of one
refusal_few : (number field : ℕ) → number < 100 → field < 10 → length (refusal_line number field) ≤ longest_line
refusal_few number field small few =
    omega (
      arith,
      decimal_few 2 number (omega arith) small,
      decimal_few 1 field (omega arith) few,
      length-append (entry word_refused number blank) (entry word_field field lf),
      length-append word_refused (counted number blank),
      length-append (decimal number) (blank ∷ []),
      length-append word_field (counted field lf),
      length-append (decimal field) (lf ∷ []),
    )

listed_few : (number : ℕ) (ns : List ℕ) → Memᴰ number ns → number ≤ whole ns
listed_few number [] x' = elim x' [ ]
listed_few number (n ∷ ns) (Memᴰ.head e) = omega (arith, e)
listed_few number (n ∷ ns) (Memᴰ.tail inside) = let later = listed_few number ns inside in omega arith

pub converted_few : (s : List ℕ) → length (converted s) ≤ longest_line
converted_few s = by_outcome (old_read s) refl
  where
    by_outcome : (o : Outcome Form) → old_read s ≡ o → length (converted s) ≤ longest_line
    by_outcome (accepted f) is = omega (arith, ap length (converted_full s f is), accepted_few (full s) f (full_read s f is))
    by_outcome (refused number field) is =
        let r = read_refused (full s) number field (old_read_lem s ∙ is) in
        omega (arith, ap length (converted_refused s number field is), refusal_few number field (let few = listed_few number _ r.0 in omega arith) (omega (arith, r.1.1)))

-- ---- the first bytes
long_seventh : (f : List ℕ) → 9 < length f → 9 < length (seventh f)
long_seventh [] far = absurd (omega arith)
long_seventh (b ∷ f) far = far

meant_alike : (j k : ℕ) (gs gs' : List (List ℕ)) (w w' : Bool) → Alike k gs w gs' w' → Alike k (meant_at j gs) w (meant_at j gs') w'
meant_alike j _ _ _ _ _ same = same
meant_alike zero _ _ _ _ _ (long {k} {f} {f'} far far') = long (long_seventh f far) (long_seventh f' far')
meant_alike (suc j) _ _ _ _ _ (long far far') = long far far'
meant_alike zero _ _ _ _ _ (more h) = more h
meant_alike (suc j) _ _ _ _ _ (more {k} {f} {fs} {fs'} {w} {w'} h) = more (meant_alike j k fs fs' w w' h)
meant_alike zero _ _ _ _ _ over = over
meant_alike (suc j) _ _ _ _ _ over = over

module _ (s : List ℕ) where
  abbrev start : List ℕ
  start = take longest_input s

  old_first : old_read start ≡ old_read s
  old_first =
      let alike = alike_take 7 longest_input s (omega arith) in
      sym (read_alike 7 [] (as_meant (fields s)) (as_meant (fields start)) (ended s) (ended start) refl
      (meant_alike 6 7 (fields s) (fields start) (ended s) (ended start) alike))

  pub converted_first : converted start ≡ converted s
  converted_first = by_outcome (old_read s) refl
    where
      by_outcome : (o : Outcome Form) → old_read s ≡ o → converted start ≡ converted s
      by_outcome (accepted f) is =
          let few = accepted_few (full s) f (full_read s f is) in
          ap converted (take_all longest_input s (omega (arith, full_longer s (gap s))))
      by_outcome (refused number field) is = converted_refused start number field (old_first ∙ is) ∙ sym (converted_refused s number field is)
