-- A line is its first field, the byte at which that ends, and the fields after it: so a cursor that goes from field to field finds them all.
-- Assumes nothing.
use mathlib.Core.Path.{◌≡◌, refl, ap, ◌∙◌, sym}
use mathlib.Core.Bool.{Bool, true, false, cond}
use mathlib.Core.List.{List, [], ◌∷◌}
use Prim.Native.Nat.{ℕ, ◌+◌, ◌≤◌}
use native.Mathlib.Omega.{arith}
use lib.Dec.{eqb}
use lib.ListN.{length, take, drop, length-take, length-drop}
use lib.Seq.{drop-drop}
use borrow.Author.Tests.{ne_eqb, eqb-true}
use Rattle.fields.specs.Fields.{lf, semicolon, grown, fields, ended}
use Rattle.fields.specs.Inner.{piece}

-- what follows the first field, from the byte on at which it ends
abbrev pub rest : List ℕ → List ℕ
rest u = drop (length (piece u)) u

-- the fields after the one that ended there
abbrev pub later : List ℕ → List (List ℕ)
later [] = []
later (b ∷ t) = cond (eqb b semicolon) (fields t) []

-- a field ends where the input ends, at LF, or at a semicolon
pub data Stop : List ℕ → Type 0 where
  input_ends : Stop []
  line_ends : (b : ℕ) (t : List ℕ) → b ≡ lf → Stop (b ∷ t)
  field_ends : (b : ℕ) (t : List ℕ) → b ≡ semicolon → Stop (b ∷ t)

pub record Cut (u : List ℕ) : Type 0 where
  pub first : fields u ≡ piece u ∷ later (rest u)
  pub whole : ended u ≡ ended (rest u)
  pub front : take (length (piece u)) u ≡ piece u
  pub stop : Stop (rest u)

module _ (b : ℕ) (s : List ℕ) where
  cut_lf : eqb b lf ≡ true → Cut (b ∷ s)
  unfolding fields ended piece
  cut_lf e =
      let is = eqb-true b lf e in
      let none : piece (b ∷ s) ≡ [] = simp e in
      let other : eqb b semicolon ≡ false = ne_eqb b semicolon (λ d. omega (arith, d)) in
      record {
        first = simp (e, other);
        whole = simp e;
        front = simp e;
        stop = simp e (line_ends b s is);
      }

  cut_semicolon : eqb b lf ≡ false → eqb b semicolon ≡ true → Cut (b ∷ s)
  unfolding fields ended piece
  cut_semicolon d e =
      record {
        first = simp (d, e);
        whole = simp (d, e);
        front = simp (d, e);
        stop = simp (d, e) (field_ends b s (eqb-true b semicolon e));
      }

  cut_other : eqb b lf ≡ false → eqb b semicolon ≡ false → Cut s → Cut (b ∷ s)
  unfolding fields ended piece
  cut_other d e c =
      record {
        first = simp (d, e) (ap (grown b) c.first);
        whole = simp (d, e) c.whole;
        front = simp (d, e) (ap (λ (t : List ℕ). b ∷ t) c.front);
        stop = simp (d, e) c.stop;
      }

pub cut : (u : List ℕ) → Cut u
unfolding fields ended piece
cut [] = record { first = refl; whole = refl; front = refl; stop = input_ends }
cut (b ∷ s) = by_byte (cut s) (eqb b lf) refl (eqb b semicolon) refl
  where
    by_byte : Cut s → (x : Bool) → eqb b lf ≡ x → (y : Bool) → eqb b semicolon ≡ y → Cut (b ∷ s)
    by_byte c true e y e' = cut_lf b s e
    by_byte c false e true e' = cut_semicolon b s e e'
    by_byte c false e false e' = cut_other b s e e' c

-- ---- a field within the input
module _ (s : List ℕ) (at e : ℕ) (inside : at ≤ length s) (end : e ≡ at + length (piece (drop at s))) where
  pub end_le : e ≤ length s
  end_le =
      let front : length (take (length (piece (drop at s))) (drop at s)) ≡ length (piece (drop at s)) = ap length (cut (drop at s)).front in
      omega (arith, length-take (length (piece (drop at s))) (drop at s), length-drop at s, front)

  pub rest_drop : rest (drop at s) ≡ drop e s
  rest_drop = drop-drop (length (piece (drop at s))) at s ∙ ap (λ (k : ℕ). drop k s) (sym end)
