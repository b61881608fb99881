-- A line that ended as it must is the line of its fields. Assumes nothing.
use mathlib.Core.Path.{◌≡◌, refl, ap, ap₂, ◌∙◌, sym}
use mathlib.Core.Bool.{Bool, true, false, true≢false}
use mathlib.Core.List.{List, [], ◌∷◌, ◌++◌, append_assoc}
use Prim.Native.Nat.{ℕ, zero, suc, ◌+◌, ◌≤◌, ◌<◌}
use native.Mathlib.Omega.{arith}
use lib.Dec.{eqb}
use lib.ListN.{length, get_or, set, length-append}
use borrow.Author.Tests.{eqb-true}
use Rattle.fields.specs.Fields.{lf, semicolon, grown, fields, ended}
use Rattle.fields.specs.Inner.{piece}
use Rattle.fields.proofs.Cutting.{rest, later, cut}
use Rattle.converter.specs.Converter.{line}
use Rattle.converter.proofs.Filling.{none_of, line_over, field_over, field_on}

-- ---- a byte more in front
module _ (f : List ℕ) where
  pub line_more : (fs : List (List ℕ)) → (fs ≡ [] → ⊥) → line (f ∷ fs) ≡ f ++ (semicolon ∷ line fs)
  unfolding line
  line_more [] some = absurd (some refl)
  line_more (g ∷ fs) some = refl

  line_grown : (b : ℕ) (fs : List (List ℕ)) → line ((b ∷ f) ∷ fs) ≡ b ∷ line (f ∷ fs)
  unfolding line
  line_grown b [] = refl
  line_grown b (g ∷ fs) = refl

cons_some : {A : Type 0} (a : A) (l : List A) → ◌≡◌ {A = List A} (a ∷ l) [] → ⊥
cons_some a l e = let z : suc (length l) ≡ 0 = ap length e in omega (arith, z)

module _ (s : List ℕ) where
  fields_some : fields s ≡ [] → ⊥
  fields_some none = cons_some (piece s) (later (rest s)) (sym (cut s).first ∙ none)

pub line_fields : (s : List ℕ) → ended s ≡ true → line (fields s) ≡ s
unfolding ended line
line_fields [] e = absurd (true≢false (sym e))
line_fields (b ∷ s) e = by_byte (line_fields s) (eqb b lf) refl (eqb b semicolon) refl
  where
    by_byte : (ended s ≡ true → line (fields s) ≡ s) → (x : Bool) → eqb b lf ≡ x → (y : Bool) → eqb b semicolon ≡ y → line (fields (b ∷ s)) ≡ b ∷ s
    by_byte on true d y d' =
        let last : eqb (length s) 0 ≡ true = sym (simp d) ∙ e in
        ap line (line_over b s d) ∙ ap₂ (λ (c : ℕ) (t : List ℕ). c ∷ t) (sym (eqb-true b lf d)) (sym (none_of s (eqb-true (length s) 0 last)))
    by_byte on false d true d' =
        ap line (field_over b s d d').0 ∙ line_more [] (fields s) (fields_some s)
        ∙ ap (λ (t : List ℕ). semicolon ∷ t) (on (sym (field_over b s d d').1 ∙ e)) ∙ ap (λ (c : ℕ). c ∷ s) (sym (eqb-true b semicolon d'))
    by_byte on false d false d' =
        ap line ((field_on b s d d').0 ∙ ap (grown b) (cut s).first) ∙ line_grown (piece s) b (later (rest s))
        ∙ ap (λ (t : List ℕ). b ∷ t) (ap line (sym (cut s).first) ∙ on (sym (field_on b s d d').1 ∙ e))

-- ---- the last field, where it is empty: what stands before it, and its LF
pub record Ends (fs : List (List ℕ)) (n : ℕ) : Type 0 where
  pub before : List ℕ
  pub empty : line fs ≡ before ++ (lf ∷ [])
  pub with_field : (v : List ℕ) → line (set fs n v) ≡ before ++ (v ++ (lf ∷ []))

set_some : (fs : List (List ℕ)) (n : ℕ) (v : List ℕ) → (fs ≡ [] → ⊥) → set fs n v ≡ [] → ⊥
set_some [] n v some e = some refl
set_some (f ∷ fs) zero v some e = cons_some v fs e
set_some (f ∷ fs) (suc n) v some e = cons_some f (set fs n v) e

pub ends : (fs : List (List ℕ)) (n : ℕ) → length fs ≡ suc n → get_or fs n [] ≡ [] → Ends fs n
unfolding line
ends [] n long empty = absurd (omega arith)
ends (f ∷ []) zero long empty =
    record { before = []; empty = ap (λ (g : List ℕ). g ++ (lf ∷ [])) empty; with_field = λ v. refl }
ends (f ∷ []) (suc n) long empty = absurd (omega arith)
ends (f ∷ (g ∷ fs)) zero long empty = absurd (omega arith)
ends (f ∷ (g ∷ fs)) (suc n) long empty =
    let e : Ends (g ∷ fs) n = ends (g ∷ fs) n (omega arith) empty in
    record {
      before = f ++ (semicolon ∷ e.before);
      empty = ap (λ (t : List ℕ). f ++ (semicolon ∷ t)) e.empty ∙ sym (append_assoc f (semicolon ∷ e.before) (lf ∷ []));
      with_field = λ v. line_more f (set (g ∷ fs) n v) (set_some (g ∷ fs) n v (cons_some g fs))
          ∙ ap (λ (t : List ℕ). f ++ (semicolon ∷ t)) (e.with_field v) ∙ sym (append_assoc f (semicolon ∷ e.before) (v ++ (lf ∷ [])));
    }

-- ---- how long a line may be
abbrev pub whole : List ℕ → ℕ
whole [] = 0
whole (b ∷ bs) = suc b + whole bs

pub line_few : (fs : List (List ℕ)) (bs : List ℕ) → length fs ≡ length bs → 1 ≤ length bs
    → ((i : ℕ) → i < length bs → length (get_or fs i []) ≤ get_or bs i 0) → length (line fs) ≤ whole bs
unfolding line
line_few fs [] long some each = absurd (omega arith)
line_few [] (b ∷ bs) long some each = absurd (omega arith)
line_few (f ∷ []) (b ∷ bs) long some each = let here = each 0 (omega arith) in omega (arith, length-append f (lf ∷ []))
line_few (f ∷ (g ∷ fs)) (b ∷ bs) long some each =
    let here = each 0 (omega arith) in
    let later = line_few (g ∷ fs) bs (omega arith) (omega arith) (λ i below. each (suc i) (omega arith)) in
    omega (arith, length-append f (semicolon ∷ line (g ∷ fs)))
