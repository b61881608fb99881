-- The line at the front of a buffer, with its gap filled, and what is printed for a line without a gap. Assumes nothing.
use mathlib.Core.Path.{◌≡◌, refl, ap, ap₂, ◌∙◌, sym, subst}
use mathlib.Core.Bool.{Bool, true, false}
use mathlib.Core.List.{List, [], ◌∷◌, ◌++◌}
use Prim.Native.Nat.{ℕ, ◌+◌, ◌-◌, ◌≤◌, ◌<◌, min}
use native.Mathlib.Omega.{arith}
use lib.Dec.{leb}
use lib.ListN.{length, take, drop, length-drop, length-append}
use lib.Seq.{sets, length-take-le, take_all, take-append_seam}
use borrow.Author.Tests.{lt-ltb, le-ltb, leb-true, leb-false}
use Rattle.paper.specs.Outcome.{Outcome, accepted, refused}
use Rattle.std.specs.declared.result.Result.{Result}
use Rattle.paper.specs.declared.Refusal.{Refusal}
use Rattle.paper.proofs.Front.{sets_append}
use Rattle.forms.specs.declared.Form.{Form}
use Rattle.forms.specs.Forms.{read, longest_input}
use Rattle.text.specs.Text.{Prints}
use Rattle.text.specs.Inner.{spelled}
use Rattle.text.proofs.Buffers.{laid}
use Rattle.converter.specs.Converter.{two, old_read, unless_refused, converted}
use Rattle.converter.specs.Calls.{Converts}
use Rattle.converter.specs.Inner.{gap, filled, kept}
use Rattle.converter.proofs.Old.{full, old_read_lem, converted_full, converted_refused}
use Rattle.converter.proofs.Bounds.{converted_first}

-- what stands before the gap, the 2, what stands after it
module _ (s l : List ℕ) (at : ℕ) (inside : at ≤ length s) (room : length s < length l) where
  pub fill_gap : (l₁ l₂ l₃ : List ℕ) → l₁ ≡ sets l 0 (take at s) → l₂ ≡ sets l₁ at (two ∷ []) → l₃ ≡ sets l₂ (at + 1) (take (length s - at) (drop at s))
      → take (length s + 1) l₃ ≡ filled s at
  fill_gap l₁ l₂ l₃ first second last =
      let t = take at s in
      let u = t ++ (two ∷ drop at s) in
      let long : length t ≡ at = length-take-le at s inside in
      let here : 0 + length t ≡ at = omega (arith, long) in
      let all : filled s at ≡ u = simp (le-ltb (length s) at inside) in
      let size : length s + 1 ≡ length u = omega (arith, length-append t (two ∷ drop at s), long, length-drop at s) in
      let fits : length u ≤ length l = omega (arith, size) in
      let put : l₃ ≡ sets l 0 u =
      last
      ∙ ap (sets l₂ (at + 1)) (take_all (length s - at) (drop at s) (omega (arith, length-drop at s)))
      ∙ ap (λ (k : List ℕ). sets k (at + 1) (drop at s)) (second ∙ ap₂ (λ (k : List ℕ) (i : ℕ). sets k i (two ∷ [])) first (sym here))
      ∙ ap (λ (i : ℕ). sets (sets (sets l 0 t) (0 + length t) (two ∷ [])) i (drop at s)) (omega (arith, here))
      ∙ sets_append (sets l 0 t) (0 + length t) (two ∷ []) (drop at s)
      ∙ sets_append l 0 t (two ∷ drop at s) in
      ap₂ take size (put ∙ laid u l fits) ∙ take-append_seam u (drop (length u) l) ∙ sym all

-- ---- what is printed for a line without a gap
module _ (t : List ℕ) where
  kept_accepted : (f : Form) → accepted f ≡ read t → t ≡ kept t
  kept_accepted f is = ap (λ (o : Outcome Form). unless_refused o t) is

  kept_refused : (number field : ℕ) → refused number field ≡ read t → spelled (refused number field) ≡ kept t
  kept_refused number field is = ap (λ (o : Outcome Form). unless_refused o t) is

pub kept_full : (s : List ℕ) → kept (full s) ≡ converted s
kept_full s = by_outcome (old_read s) refl
  where
    by_outcome : (o : Outcome Form) → old_read s ≡ o → kept (full s) ≡ converted s
    by_outcome (accepted f) is = sym (kept_accepted (full s) f (sym is ∙ sym (old_read_lem s))) ∙ sym (converted_full s f is)
    by_outcome (refused number field) is =
        sym (kept_refused (full s) number field (sym is ∙ sym (old_read_lem s))) ∙ sym (converted_refused s number field is)

-- ---- the call: s' are the first bytes
pub first_bytes : (s : List ℕ) (n : ℕ) → n ≡ min (length s) longest_input → take n s ≡ take longest_input s
first_bytes s n is = by_length (leb (length s) longest_input) refl
  where
    by_length : (t : Bool) → leb (length s) longest_input ≡ t → take n s ≡ take longest_input s
    by_length true e =
        let short = leb-true (length s) longest_input e in
        take_all n s (omega (arith, is)) ∙ sym (take_all longest_input s short)
    by_length false e = let long = leb-false (length s) longest_input e in let all : n ≡ longest_input = omega (arith, is) in ap (λ (k : ℕ). take k s) all

module _ (s s' : List ℕ) (start : s' ≡ take longest_input s) (at : ℕ) (here : at ≡ gap s') where
  same : kept (filled s' at) ≡ converted s
  same = ap (λ (g : ℕ). kept (filled s' g)) here ∙ kept_full s' ∙ ap converted start ∙ converted_first s

  pub converts_as_is : (r : Result ℕ Refusal) (m m' : List ℕ) → length s' < at → Prints (kept s') r m m' → Converts r s m m'
  converts_as_is r m m' past =
      let all : filled s' at ≡ s' = simp (lt-ltb (length s') at past) in
      subst (λ (t : List ℕ). Prints t r m m') (ap kept (sym all) ∙ same)

  pub converts_filled : (r : Result ℕ Refusal) (m m' t : List ℕ) → t ≡ filled s' at → Prints (kept t) r m m' → Converts r s m m'
  converts_filled r m m' t line = subst (λ (u : List ℕ). Prints u r m m') (ap kept line ∙ same)
