-- The cursor after k fields: the fields from it on are the line's from its k-th on, and whether the line closes there is seen at the last field's end.
-- Assumes nothing.
use mathlib.Core.Path.{◌≡◌, refl, ap, ◌∙◌, sym}
use mathlib.Core.Bool.{Bool, true, false, cond, ◌&&◌}
use mathlib.Core.List.{List, [], ◌∷◌}
use Prim.Native.Nat.{ℕ, suc, ◌+◌, ◌≤◌, ◌<◌}
use native.Mathlib.Nat.{add-zero}
use native.Mathlib.Omega.{arith}
use lib.Dec.{eqb, leb, ltb}
use lib.ListN.{length, get_or, drop, length-drop, drop_of_length-le, get_or-eq_default}
use lib.Seq.{get_or-drop}
use borrow.Author.Tests.{le-leb, lt-leb, lt-ltb, le-ltb, leb-true, leb-false}
use Rattle.fields.specs.Fields.{fields, ended}
use Rattle.fields.specs.Inner.{piece, closes}
use Rattle.fields.proofs.Cutting.{rest, later, cut}

-- the fields from the cursor on, none past the input's end
abbrev pub from : List ℕ → ℕ → List (List ℕ)
from s at = cond (leb at (length s)) (fields (drop at s)) []

abbrev pub closed : List ℕ → ℕ → Bool
closed s k = eqb (length (fields s)) k && ended s

pub record Come (s : List ℕ) (k at end : ℕ) : Type 0 where
  pub stands : drop k (fields s) ≡ from s at
  pub same_end : at ≤ length s → ended s ≡ ended (drop at s)
  pub closing : 0 < k → closed s k ≡ closes s end

pub come_start : (s : List ℕ) → Come s 0 0 0
come_start s =
    record { stands = sym (simp (le-leb 0 (length s) (omega arith))); same_end = λ i. refl; closing = λ some. absurd (omega arith) }

-- what is past the input's end
module _ (s : List ℕ) (at : ℕ) (past : length s < at) where
  pub piece_past : piece (drop at s) ≡ []
  unfolding piece
  piece_past = let far : length s ≤ at = omega arith in ap piece (drop_of_length-le s far)

  pub from_past : from s at ≡ []
  from_past = simp (lt-leb at (length s) past)

-- ---- what stands at the cursor
module _ (s : List ℕ) (k at end : ℕ) (come : Come s k at end) where
  pub fields_here : at ≤ length s → drop k (fields s) ≡ piece (drop at s) ∷ later (rest (drop at s))
  fields_here inside = come.stands ∙ simp (le-leb at (length s) inside) (cut (drop at s)).first

  fields_past : length s < at → drop k (fields s) ≡ []
  fields_past past = come.stands ∙ from_past s at past

  pub field_missing : length s < at → length (fields s) ≤ k
  field_missing past = omega (arith, ap length (fields_past past), length-drop k (fields s))

  pub field_many : at ≤ length s → length (fields s) ≡ suc (k + length (later (rest (drop at s))))
  field_many inside = omega (arith, ap length (fields_here inside), length-drop k (fields s))

  pub missing_test : leb (length (fields s)) k ≡ ltb (length s) at
  missing_test = by_test (leb at (length s)) refl
    where
      by_test : (t : Bool) → leb at (length s) ≡ t → leb (length (fields s)) k ≡ ltb (length s) at
      by_test true e = let inside = leb-true at (length s) e in lt-leb _ k (omega (arith, field_many inside)) ∙ sym (le-ltb (length s) at inside)
      by_test false e = let past = leb-false at (length s) e in le-leb _ k (field_missing past) ∙ sym (lt-ltb (length s) at past)

  pub field_at : get_or (fields s) k [] ≡ piece (drop at s)
  field_at = by_test (leb at (length s)) refl
    where
      by_test : (t : Bool) → leb at (length s) ≡ t → get_or (fields s) k [] ≡ piece (drop at s)
      by_test true e =
          ap (λ (j : ℕ). get_or (fields s) j []) (sym (add-zero k))
          ∙ sym (get_or-drop k (fields s) 0 [])
          ∙ ap (λ (fs : List (List ℕ)). get_or fs 0 []) (fields_here (leb-true at (length s) e))
      by_test false e =
          let past = leb-false at (length s) e in
          get_or-eq_default (fields s) [] (field_missing past) ∙ sym (piece_past s at past)
