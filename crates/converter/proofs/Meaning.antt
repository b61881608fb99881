-- What an empty field seven meant: the fields of a line after its sixth semicolon are those of the rest, and a 2 in front of the rest is the empty one as
-- it was meant. Assumes nothing.
use mathlib.Core.Path.{◌≡◌, refl, ap, ap₂, ◌∙◌, sym}
use mathlib.Core.Bool.{Bool, true, false}
use mathlib.Core.List.{List, [], ◌∷◌, ◌++◌}
use Prim.Native.Nat.{ℕ, suc}
use native.Mathlib.Omega.{arith}
use lib.Dec.{eqb}
use lib.ListN.{length, set}
use lib.Seq.{get_or_at, set_at}
use Rattle.fields.specs.Fields.{lf, semicolon, grown, fields, ended}
use Rattle.fields.specs.Inner.{piece}
use Rattle.fields.proofs.Cutting.{rest, later, cut}
use Rattle.forms.specs.Forms.{given, in_order}
use Rattle.converter.specs.Converter.{two, seventh, as_meant}
use Rattle.converter.specs.Laws.{EmptyMeant2}
use Rattle.converter.proofs.Filling.{line_over, field_over, field_on}

-- ---- a line up to a semicolon, and the rest
pub record Joined (t u : List ℕ) : Type 0 where
  pub of_fields : fields (t ++ (semicolon ∷ u)) ≡ fields t ++ fields u
  pub of_end : ended (t ++ (semicolon ∷ u)) ≡ ended u

grown_length : (b : ℕ) (s : List ℕ) → length (grown b (fields s)) ≡ length (fields s)
grown_length b s = ap (λ (fs : List (List ℕ)). length (grown b fs)) (cut s).first ∙ sym (ap length (cut s).first)

module _ (b : ℕ) (t u : List ℕ) where
  abbrev both : List ℕ
  both = t ++ (semicolon ∷ u)

  joined_field : eqb b lf ≡ false → eqb b semicolon ≡ true → Joined t u → Joined (b ∷ t) u
  joined_field d e j =
      record {
        of_fields = (field_over b both d e).0 ∙ ap (λ (fs : List (List ℕ)). [] ∷ fs) j.of_fields ∙ sym (ap (λ (fs : List (List ℕ)). fs ++ fields u) (field_over b t d e).0);
        of_end = (field_over b both d e).1 ∙ j.of_end;
      }

  joined_on : eqb b lf ≡ false → eqb b semicolon ≡ false → Joined t u → Joined (b ∷ t) u
  joined_on d e j =
      record {
        of_fields = (field_on b both d e).0 ∙ ap (grown b) (j.of_fields ∙ ap (λ (fs : List (List ℕ)). fs ++ fields u) (cut t).first)
            ∙ sym (ap (λ (fs : List (List ℕ)). fs ++ fields u) ((field_on b t d e).0 ∙ ap (grown b) (cut t).first));
        of_end = (field_on b both d e).1 ∙ j.of_end;
      }

-- where t has no LF: a semicolon after it begins another field
joined : (t u : List ℕ) → length (fields (t ++ (semicolon ∷ []))) ≡ suc (length (fields t)) → Joined t u
unfolding fields ended
joined [] u more = record { of_fields = refl; of_end = refl }
joined (b ∷ t) u more = by_byte (joined t u) (eqb b lf) refl (eqb b semicolon) refl
  where
    by_byte : (length (fields (t ++ (semicolon ∷ []))) ≡ suc (length (fields t)) → Joined t u) → (x : Bool) → eqb b lf ≡ x → (y : Bool) → eqb b semicolon ≡ y → Joined (b ∷ t) u
    by_byte on true d y e =
        absurd (omega (arith, more, ap length (line_over b (t ++ (semicolon ∷ [])) d), ap length (line_over b t d)))
    by_byte on false d true e =
        joined_field b t u d e (on (omega (arith, more, ap length (field_over b (t ++ (semicolon ∷ [])) d e).0, ap length (field_over b t d e).0)))
    by_byte on false d false e =
        joined_on b t u d e
        (on (omega (arith, more, ap length (field_on b (t ++ (semicolon ∷ [])) d e).0 ∙ grown_length b (t ++ (semicolon ∷ [])), ap length (field_on b t d e).0 ∙ grown_length b t)))

-- ---- the rest begins with an empty field
module _ (fs : List (List ℕ)) (six : length fs ≡ 6) (u : List ℕ) (none : piece u ≡ []) where
  first_two : fields (two ∷ u) ≡ (two ∷ []) ∷ later (rest u)
  unfolding fields
  first_two = ap (grown two) (cut u).first ∙ ap (λ (f : List ℕ). (two ∷ f) ∷ later (rest u)) none

  meant : as_meant (fs ++ fields u) ≡ fs ++ fields (two ∷ u)
  meant =
      let gs = later (rest u) in
      let start : fields u ≡ [] ∷ gs = (cut u).first ∙ ap (λ (f : List ℕ). f ∷ gs) none in
      ap (λ (hs : List (List ℕ)). as_meant (fs ++ hs)) start
      ∙ ap (λ (f : List ℕ). set (fs ++ ([] ∷ gs)) 6 (seventh f)) (get_or_at fs [] gs [] 6 six)
      ∙ set_at fs [] gs (two ∷ []) 6 six
      ∙ ap (λ (hs : List (List ℕ)). fs ++ hs) (sym first_two)

pub empty_meant_2 : EmptyMeant2
unfolding ended
empty_meant_2 t u six seven none =
    let more : length (fields (t ++ (semicolon ∷ []))) ≡ suc (length (fields t)) = omega (arith, six, seven) in
    let empty : piece u ≡ [] = sym (ap (λ (fs : List (List ℕ)). given fs 1) (cut u).first) ∙ none in
    ap₂ in_order
    (ap as_meant (joined t u more).of_fields ∙ meant (fields t) six u empty ∙ sym (joined t (two ∷ u) more).of_fields)
    ((joined t u more).of_end ∙ sym (joined t (two ∷ u) more).of_end)
