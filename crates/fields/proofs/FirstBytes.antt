-- A field that is read takes ten bytes with the one at its end, and a field that goes on past them is refused for its length: so a line cut
-- after ten bytes a field, and one more, has the same fields as far as they matter. Assumes nothing.
use mathlib.Core.Path.{◌≡◌, refl, ap, ap₂, ◌∙◌, sym, subst⁻¹}
use mathlib.Core.Bool.{Bool, true, false}
use mathlib.Core.List.{List, [], ◌∷◌}
use Prim.Native.Nat.{ℕ, zero, suc, ◌+◌, ◌-◌, ◌*◌, ◌≤◌, ◌<◌}
use native.Mathlib.Omega.{arith}
use lib.Dec.{eqb, leb}
use lib.ListN.{length, take, drop, length-take}
use lib.Seq.{take_all, take-nil}
use borrow.Author.Tests.{eq-eqb, ne_eqb, leb-true, leb-false}
use Rattle.fields.specs.Fields.{lf, semicolon, fields, ended}
use Rattle.fields.specs.Inner.{piece}
use Rattle.fields.proofs.Cutting.{rest, later, Stop, input_ends, line_ends, field_ends, cut}

-- two lines alike as far as k fields decide: each is a list of fields, and whether it ended as it must
pub data Alike : ℕ → List (List ℕ) → Bool → List (List ℕ) → Bool → Type 0 where
  same : {k : ℕ} {fs : List (List ℕ)} {w : Bool} → Alike k fs w fs w
  long : {k : ℕ} {f f' : List ℕ} {fs fs' : List (List ℕ)} {w w' : Bool} → 9 < length f → 9 < length f' → Alike (suc k) (f ∷ fs) w (f' ∷ fs') w'
  more : {k : ℕ} {f : List ℕ} {fs fs' : List (List ℕ)} {w w' : Bool} → Alike k fs w fs' w' → Alike (suc k) (f ∷ fs) w (f ∷ fs') w'
  over : {f f' : List ℕ} {fs fs' : List (List ℕ)} {w w' : Bool} → Alike 0 (f ∷ fs) w (f' ∷ fs') w'

-- ---- the first bytes of a field
piece_take : (m : ℕ) (u : List ℕ) → piece (take m u) ≡ take m (piece u)
unfolding piece
piece_take zero u = refl
piece_take (suc m) [] = refl
piece_take (suc m) (b ∷ u) = by_byte (piece_take m u) (eqb b lf) refl (eqb b semicolon) refl
  where
    by_byte : piece (take m u) ≡ take m (piece u) → (x : Bool) → eqb b lf ≡ x → (y : Bool) → eqb b semicolon ≡ y
        → piece (b ∷ take m u) ≡ take (suc m) (piece (b ∷ u))
    by_byte onward true e y e' = simp e
    by_byte onward false e true e' = simp (e, e')
    by_byte onward false e false e' = simp (e, e') (ap (λ (f : List ℕ). b ∷ f) onward)

drop_take : (n m : ℕ) (u : List ℕ) → n ≤ m → drop n (take m u) ≡ take (m - n) (drop n u)
drop_take zero m u below = let all : m ≡ m - 0 = omega arith in ap (λ (k : ℕ). take k u) all
drop_take (suc n) zero u below = absurd (omega arith)
drop_take (suc n) (suc m) [] below = sym (take-nil (suc m - suc n))
drop_take (suc n) (suc m) (b ∷ u) below =
    let left : m - n ≡ suc m - suc n = omega arith in
    drop_take n m u (omega arith) ∙ ap (λ (k : ℕ). take k (drop n u)) left

-- the bytes after a short field
rest_take : (m : ℕ) (u : List ℕ) → length (piece u) ≤ m → (piece (take m u) ≡ piece u) × (rest (take m u) ≡ take (m - length (piece u)) (rest u))
rest_take m u short =
    let front : piece (take m u) ≡ piece u = piece_take m u ∙ take_all m (piece u) short in
    (front, ap (λ (f : List ℕ). drop (length f) (take m u)) front ∙ drop_take (length (piece u)) m u short)

-- ---- the lines, from what follows their first field
alike_to : {k : ℕ} {fs gs fs' gs' : List (List ℕ)} {w v w' v' : Bool} → fs ≡ gs → w ≡ v → fs' ≡ gs' → w' ≡ v' → Alike k gs v gs' v' → Alike k fs w fs' w'
alike_to {k} {fs} {gs} {fs'} {gs'} {w} {v} {w'} {v'} p q p' q' h =
    subst⁻¹ (λ (x : List (List ℕ)). Alike k x w fs' w') p
    (subst⁻¹ (λ (x : Bool). Alike k gs x fs' w') q
    (subst⁻¹ (λ (x : List (List ℕ)). Alike k gs v x w') p'
    (subst⁻¹ (λ (x : Bool). Alike k gs v gs' x) q' h)))

alike_equal : {k : ℕ} {fs fs' : List (List ℕ)} {w w' : Bool} → fs ≡ fs' → w ≡ w' → Alike k fs w fs' w'
alike_equal p q = alike_to p q refl refl same

-- a list is empty where its first bytes are
none_take : (n : ℕ) (t : List ℕ) → eqb (length t) 0 ≡ eqb (length (take (suc n) t)) 0
none_take n [] = refl
none_take n (b ∷ t) = ne_eqb (suc (length t)) 0 (λ d. omega (arith, d)) ∙ sym (ne_eqb (suc (length (take n t))) 0 (λ d. omega (arith, d)))

module _ (b : ℕ) (t : List ℕ) where
  line_fields : b ≡ lf → later (b ∷ t) ≡ []
  line_fields is = simp (ne_eqb b semicolon (λ d. omega (arith, d)))

  line_ended : b ≡ lf → ended (b ∷ t) ≡ eqb (length t) 0
  unfolding ended
  line_ended is = simp (eq-eqb b lf is)

  field_fields : b ≡ semicolon → later (b ∷ t) ≡ fields t
  field_fields is = simp (eq-eqb b semicolon is)

  field_ended : b ≡ semicolon → ended (b ∷ t) ≡ ended t
  unfolding ended
  field_ended is = simp (ne_eqb b lf (λ d. omega (arith, d)))

alike_rest : (k n : ℕ) (f r : List ℕ) → Stop r
    → ((t : List ℕ) → Alike k (fields t) (ended t) (fields (take (suc n) t)) (ended (take (suc n) t)))
    → Alike (suc k) (f ∷ later r) (ended r) (f ∷ later (take (suc (suc n)) r)) (ended (take (suc (suc n)) r))
alike_rest k n f _ input_ends onward = same
alike_rest k n f _ (line_ends b t is) onward =
    alike_equal (ap (λ (fs : List (List ℕ)). f ∷ fs) (line_fields b t is ∙ sym (line_fields b (take (suc n) t) is)))
    (line_ended b t is ∙ none_take n t ∙ sym (line_ended b (take (suc n) t) is))
alike_rest k n f _ (field_ends b t is) onward =
    let t' = take (suc n) t in
    alike_to (ap (λ (fs : List (List ℕ)). f ∷ fs) (field_fields b t is)) (field_ended b t is)
    (ap (λ (fs : List (List ℕ)). f ∷ fs) (field_fields b t' is)) (field_ended b t' is) (more (onward t))

module _ (k m : ℕ) (u : List ℕ) (room : 10 * suc k + 1 ≤ m)
    (onward : (n : ℕ) (t : List ℕ) → 10 * k + 1 ≤ n → Alike k (fields t) (ended t) (fields (take n t)) (ended (take n t))) where
  alike_long : 9 < length (piece u) → Alike (suc k) (fields u) (ended u) (fields (take m u)) (ended (take m u))
  alike_long far =
      let far' : 9 < length (piece (take m u)) = omega (arith, ap length (piece_take m u), length-take m (piece u)) in
      alike_to (cut u).first refl (cut (take m u)).first refl (long far far')

  alike_short : length (piece u) ≤ 9 → Alike (suc k) (fields u) (ended u) (fields (take m u)) (ended (take m u))
  alike_short near =
      let u' = take m u in
      let parts = rest_take m u (omega arith) in
      let n = m - length (piece u) - 2 in
      let two : m - length (piece u) ≡ suc (suc n) = omega arith in
      let after : rest u' ≡ take (suc (suc n)) (rest u) = parts.1 ∙ ap (λ (j : ℕ). take j (rest u)) two in
      let first : fields u' ≡ piece u ∷ later (take (suc (suc n)) (rest u)) =
      (cut u').first ∙ ap₂ (λ (f r : List ℕ). f ∷ later r) parts.0 after in
      alike_to (cut u).first (cut u).whole first ((cut u').whole ∙ ap ended after)
      (alike_rest k n (piece u) (rest u) (cut u).stop (λ t. onward (suc n) t (omega arith)))

  alike_step : Alike (suc k) (fields u) (ended u) (fields (take m u)) (ended (take m u))
  alike_step = by_length (leb (length (piece u)) 9) refl
    where
      by_length : (x : Bool) → leb (length (piece u)) 9 ≡ x → Alike (suc k) (fields u) (ended u) (fields (take m u)) (ended (take m u))
      by_length true e = alike_short (leb-true (length (piece u)) 9 e)
      by_length false e = alike_long (leb-false (length (piece u)) 9 e)

pub alike_take : (k m : ℕ) (u : List ℕ) → 10 * k + 1 ≤ m → Alike k (fields u) (ended u) (fields (take m u)) (ended (take m u))
alike_take zero m u room = alike_to (cut u).first refl (cut (take m u)).first refl over
alike_take (suc k) m u room = alike_step k m u room (λ n t enough. alike_take k n t enough)
