-- One field more: the byte at its end says whether a field follows, the line closes or the input ends, and the cursor goes on. Assumes nothing.
use Rattle.std.proofs.Math.Bool.{and-false}
use mathlib.Core.Path.{◌≡◌, refl, ap, ◌∙◌, sym}
use mathlib.Core.Bool.{Bool, true, false, ◌&&◌}
use mathlib.Core.List.{List, [], ◌∷◌}
use Prim.Native.Nat.{ℕ, suc, ◌+◌, ◌-◌, ◌≤◌, ◌<◌}
use native.Mathlib.Numerals.{add-one}
use native.Mathlib.Omega.{arith}
use lib.Dec.{eqb}
use lib.ListN.{length, get_or, drop, length-drop}
use lib.Seq.{drop-drop}
use borrow.Author.Tests.{eq-eqb, ne_eqb, le-leb, eqb-true, eqb-false}
use Rattle.fields.specs.Fields.{lf, semicolon, fields, ended}
use Rattle.fields.specs.Inner.{piece, next, closes}
use Rattle.fields.proofs.Cursor.{drop_next, next_none, next_field, next_other, closes_not, closes_last}
use Rattle.fields.proofs.Cutting.{rest, later, Stop, input_ends, line_ends, field_ends, cut, end_le, rest_drop}
use Rattle.fields.proofs.Coming.{from, closed, Come, from_past, fields_here, field_many}

-- ---- one field more: r is what follows it
module _ (s : List ℕ) (k e : ℕ) (r : List ℕ) (here : r ≡ drop e s) (within : e ≤ length s)
    (stands : drop (suc k) (fields s) ≡ later r) (whole : ended s ≡ ended r) (many : length (fields s) ≡ suc (k + length (later r))) where
  -- no field follows
  come_last : next s e ≡ length s + 1 → later r ≡ [] → closed s (suc k) ≡ closes s e → Come s (suc k) (next s e) e
  come_last past none closing =
      record {
        stands = stands ∙ none ∙ sym (from_past s (next s e) (omega arith));
        same_end = λ inside. absurd (omega arith);
        closing = λ some. closing;
      }

  -- the input ends
  come_none : r ≡ [] → Come s (suc k) (next s e) e
  unfolding ended
  come_none none =
      let last : e ≡ length s = omega (arith, ap length (sym here ∙ none), length-drop e s) in
      let open_end : ended s ≡ false = whole ∙ ap ended none in
      come_last (next_none s e (omega arith)) (ap later none)
      (ap (λ (t : Bool). eqb (length (fields s)) (suc k) && t) open_end ∙ and-false (eqb (length (fields s)) (suc k)) ∙ sym (closes_not s e (λ more. omega (arith, more))))

  module _ (b : ℕ) (t : List ℕ) (more : r ≡ b ∷ t) where
    byte_inside : e < length s
    byte_inside = omega (arith, ap length (sym here ∙ more), length-drop e s)

    byte_both : b ∷ t ≡ get_or s e 0 ∷ drop (e + 1) s
    byte_both = sym more ∙ here ∙ drop_next s e byte_inside

    byte_here : b ≡ get_or s e 0
    byte_here = ap (λ (l : List ℕ). get_or l 0 0) byte_both

    tail_here : t ≡ drop (e + 1) s
    tail_here = ap (drop 1) byte_both

    -- the line ends
    come_lf : b ≡ lf → Come s (suc k) (next s e) e
    unfolding ended
    come_lf is =
        let here_lf : get_or s e 0 ≡ lf = sym byte_here ∙ is in
        let none : later r ≡ [] = ap later more ∙ simp (ne_eqb b semicolon (λ d. omega (arith, d))) in
        let exact : length (fields s) ≡ suc k = omega (arith, many, ap length none) in
        let ends : ended s ≡ eqb (length t) 0 = whole ∙ ap ended more ∙ simp (eq-eqb b lf is) in
        let left : length t ≡ length s - (e + 1) = ap length tail_here ∙ length-drop (e + 1) s in
        come_last (next_other s e (λ d. omega (arith, d))) none
        (simp (eq-eqb (length (fields s)) (suc k) exact, ends) (by_test (eqb (length t) 0) refl left here_lf))
      where
        by_test : (x : Bool) → eqb (length t) 0 ≡ x → length t ≡ length s - (e + 1) → get_or s e 0 ≡ lf → eqb (length t) 0 ≡ closes s e
        by_test true d left is_lf = d ∙ sym (closes_last s e (omega (arith, eqb-true (length t) 0 d, byte_inside)) ∙ eq-eqb (get_or s e 0) lf is_lf)
        by_test false d left is_lf = d ∙ sym (closes_not s e (λ last. eqb-false (length t) 0 d (omega (arith, last, left))))

    -- a field follows
    come_field : b ≡ semicolon → Come s (suc k) (next s e) e
    unfolding ended
    come_field is =
        let here_semicolon : get_or s e 0 ≡ semicolon = sym byte_here ∙ is in
        let onward : next s e ≡ e + 1 = next_field s e here_semicolon in
        let inner : e + 1 ≤ length s = omega (arith, byte_inside) in
        let follows : later r ≡ fields t = ap later more ∙ simp (eq-eqb b semicolon is) in
        let ends : ended s ≡ ended t = whole ∙ ap ended more ∙ simp (ne_eqb b lf (λ d. omega (arith, d))) in
        let longer : length (fields s) ≡ suc (k + suc (length (later (rest t)))) = many ∙ ap (λ (fs : List (List ℕ)). suc (k + length fs)) (follows ∙ (cut t).first) in
        record {
          stands = stands ∙ follows ∙ ap fields tail_here ∙ sym (ap (from s) onward ∙ simp (le-leb (e + 1) (length s) inner));
          same_end = λ inside. ends ∙ ap ended (tail_here ∙ ap (λ (j : ℕ). drop j s) (sym onward));
          closing = λ some. simp (ne_eqb (length (fields s)) (suc k) (λ d. omega (arith, d, longer))) (sym (ap (λ (x : Bool). eqb (e + 1) (length s) && x) (ne_eqb (get_or s e 0) lf (λ d. omega (arith, d))) ∙ and-false (eqb (e + 1) (length s))));
        }

  come_stop : Stop r → Come s (suc k) (next s e) e
  come_stop stop = by_stop r refl stop
    where
      by_stop : (r' : List ℕ) → r ≡ r' → Stop r' → Come s (suc k) (next s e) e
      by_stop _ same input_ends = come_none same
      by_stop _ same (line_ends b t is) = come_lf b t same is
      by_stop _ same (field_ends b t is) = come_field b t same is

pub come_step : (s : List ℕ) (k at end e : ℕ) → Come s k at end → at ≤ length s → e ≡ at + length (piece (drop at s)) → Come s (suc k) (next s e) e
come_step s k at end e come inside ends =
    let u = drop at s in
    let here = fields_here s k at end come inside in
    come_stop s k e (rest u) (rest_drop s at e inside ends) (end_le s at e inside ends)
    (ap (λ (j : ℕ). drop j (fields s)) (sym (add-one k)) ∙ sym (drop-drop 1 k (fields s)) ∙ ap (drop 1) here)
    (come.same_end inside ∙ (cut u).whole)
    (field_many s k at end come inside)
    (cut u).stop
