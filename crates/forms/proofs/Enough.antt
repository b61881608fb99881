-- Lines that are alike as far as seven fields decide are decided alike: up to the first field with a fault they have the same fields, and a
-- field that is too long is refused whatever it holds. Assumes nothing.
use mathlib.Core.Path.{◌≡◌, refl, ap, ap₂, ◌∙◌, sym}
use mathlib.Core.Bool.{Bool, true, false, not, ◌&&◌}
use mathlib.Core.List.{List, [], ◌∷◌, ◌++◌, append_assoc}
use Prim.Native.Nat.{ℕ, zero, suc, ◌+◌, ◌-◌, ◌≤◌, ◌<◌}
use native.Mathlib.Omega.{arith}
use lib.Dec.{eqb, leb}
use lib.ListN.{length, get_or, take, length-append, get_or-append}
use lib.Seq.{get_or-append_seam}
use borrow.Author.Tests.{ne_eqb, le-leb, lt-leb, eqb-true, eqb-false}
use Rattle.paper.specs.Outcome.{Outcome, accepted, refused, refuse_when_at, fault_when, scan, rows}
use Rattle.paper.proofs.Scan.{fault_taken}
use Rattle.fields.specs.Fields.{fields, ended, is_number, value}
use Rattle.forms.specs.Forms.{given, number_in, outside, number_fault, fault, form_in, in_order, read, longest_input}
use Rattle.forms.proofs.Ranges.{outside_same}
use Rattle.fields.proofs.FirstBytes.{Alike, same, long, more, over, alike_take}

-- ---- scans of the same faults
module _ {A : Type 0} (f g : ℕ → ℕ) (rest rest' : Outcome A) where
  scan_alike : (i k : ℕ) → ((j : ℕ) → i ≤ j → j < i + k → f j ≡ g j) → rest ≡ rest' → scan f i (rows (λ j. j) i k) rest ≡ scan g i (rows (λ j. j) i k) rest'
  scan_alike i zero alike end = end
  scan_alike i (suc k) alike end =
      ap₂ (λ (n : ℕ) (o : Outcome A). refuse_when_at (not (eqb n 0)) n i o) (alike i (omega arith) (omega arith))
      (scan_alike (suc i) k (λ j low high. alike j (omega arith) (omega arith)) end)

  -- up to a fault at n
  scan_until : (n i k : ℕ) → i ≤ n → n < i + k → ((j : ℕ) → i ≤ j → j ≤ n → f j ≡ g j) → (f n ≡ 0 → ⊥)
      → scan f i (rows (λ j. j) i k) rest ≡ scan g i (rows (λ j. j) i k) rest'
  scan_until n i zero low high alike some = absurd (omega arith)
  scan_until n i (suc k) low high alike some =
      by_place (λ past. scan_until n (suc i) k past (omega arith) (λ j from to. alike j (omega arith) to) some) (eqb i n) refl
    where
      by_place : (suc i ≤ n → scan f (suc i) (rows (λ j. j) (suc i) k) rest ≡ scan g (suc i) (rows (λ j. j) (suc i) k) rest')
          → (x : Bool) → eqb i n ≡ x → scan f i (rows (λ j. j) i (suc k)) rest ≡ scan g i (rows (λ j. j) i (suc k)) rest'
      by_place onward true e =
          let here = eqb-true i n e in
          let bad : f i ≡ 0 → ⊥ = λ none. some (ap f (sym here) ∙ none) in
          let equal = alike i (omega arith) low in
          fault_taken (f i) i _ bad ∙ ap (λ (m : ℕ). refused m i) equal ∙ sym (fault_taken (g i) i _ (λ none. bad (equal ∙ none)))
      by_place onward false e =
          let other = eqb-false i n e in
          ap₂ (λ (m : ℕ) (o : Outcome A). refuse_when_at (not (eqb m 0)) m i o) (alike i (omega arith) low) (onward (omega (arith, other)))

-- ---- lists of fields with the same front
module _ (ps gs gs' : List (List ℕ)) where
  front_given : (i : ℕ) → 1 ≤ i → i ≤ length ps → given (ps ++ gs) i ≡ given (ps ++ gs') i
  front_given i low high =
      let inside : i - 1 < length ps = omega arith in
      get_or-append ps gs [] (i - 1) inside ∙ sym (get_or-append ps gs' [] (i - 1) inside)

  front_there : (i : ℕ) → 1 ≤ i → i ≤ length ps → leb (length (ps ++ gs)) (i - 1) ≡ leb (length (ps ++ gs')) (i - 1)
  front_there i low high =
      lt-leb (length (ps ++ gs)) (i - 1) (omega (arith, length-append ps gs))
      ∙ sym (lt-leb (length (ps ++ gs')) (i - 1) (omega (arith, length-append ps gs')))

  front_fault : (i : ℕ) → 1 ≤ i → i ≤ length ps → fault (ps ++ gs) i ≡ fault (ps ++ gs') i
  front_fault i low high =
      let is = front_given i low high in
      let range = outside_same (number_in (ps ++ gs) i) (number_in (ps ++ gs) 4) (number_in (ps ++ gs) 5) i (number_in (ps ++ gs') 4) (number_in (ps ++ gs') 5)
      (λ seven. ap value (front_given 4 (omega arith) (omega arith))) (λ seven. ap value (front_given 5 (omega arith) (omega arith))) in
      ap₂ (λ (x : Bool) (f : List ℕ). number_fault x f (outside i (value f) (number_in (ps ++ gs) 4) (number_in (ps ++ gs) 5))) (front_there i low high) is
      ∙ ap (λ (w : ℕ). number_fault (leb (length (ps ++ gs')) (i - 1)) (given (ps ++ gs') i) w)
      (ap (λ (v : ℕ). outside i v (number_in (ps ++ gs) 4) (number_in (ps ++ gs) 5)) (ap value (sym is)) ∙ range
      ∙ ap (λ (v : ℕ). outside i v (number_in (ps ++ gs') 4) (number_in (ps ++ gs') 5)) (ap value is))

-- ---- a field that is too long
long_number : (f : List ℕ) → 9 < length f → is_number f ≡ false
long_number f far = simp (le-leb 1 (length f) (omega arith), lt-leb (length f) 9 far)

long_fault : (ps gs : List (List ℕ)) (f : List ℕ) → 9 < length f → fault (ps ++ (f ∷ gs)) (length ps + 1) ≡ 23
long_fault ps gs f far =
    let here : length ps + 1 - 1 ≡ length ps = omega arith in
    let is : given (ps ++ (f ∷ gs)) (length ps + 1) ≡ f = ap (λ (j : ℕ). get_or (ps ++ (f ∷ gs)) j []) here ∙ get_or-append_seam ps f gs [] in
    let there = lt-leb (length (ps ++ (f ∷ gs))) (length ps + 1 - 1) (omega (arith, length-append ps (f ∷ gs))) in
    refused_number _ _ _ there (ap is_number is ∙ long_number f far)
  where
    refused_number : (missing right : Bool) (w : ℕ) → missing ≡ false → right ≡ false → fault_when missing 23 (fault_when (not right) 23 w) ≡ 23
    refused_number missing right w p q = simp (p, q)

-- ---- lines that are alike
-- more than seven fields
over_last : (fs : List (List ℕ)) (w : Bool) → 7 < length fs → refuse_when_at (not (eqb (length fs) 7 && w)) 23 8 (accepted (form_in fs)) ≡ refused 23 8
over_last fs w many = simp (ne_eqb (length fs) 7 (λ d. omega (arith, d)))

pub read_alike : (k : ℕ) (ps gs gs' : List (List ℕ)) (w w' : Bool) → length ps + k ≡ 7 → Alike k gs w gs' w' → in_order (ps ++ gs) w ≡ in_order (ps ++ gs') w'
read_alike _ ps _ _ _ _ seven same = refl
read_alike _ ps _ _ w w' seven (long {k} {f} {f'} {fs} {fs'} far far') =
    scan_until (fault (ps ++ (f ∷ fs))) (fault (ps ++ (f' ∷ fs'))) _ _ (length ps + 1) 1 7 (omega arith) (omega arith)
    (λ j low high. by_place j low high (eqb j (length ps + 1)) refl) (λ none. omega (arith, none, long_fault ps fs f far))
  where
    by_place : (j : ℕ) → 1 ≤ j → j ≤ length ps + 1 → (x : Bool) → eqb j (length ps + 1) ≡ x → fault (ps ++ (f ∷ fs)) j ≡ fault (ps ++ (f' ∷ fs')) j
    by_place j low high true e =
        let here = eqb-true j (length ps + 1) e in
        ap (fault (ps ++ (f ∷ fs))) here ∙ long_fault ps fs f far ∙ sym (ap (fault (ps ++ (f' ∷ fs'))) here ∙ long_fault ps fs' f' far')
    by_place j low high false e =
        let other = eqb-false j (length ps + 1) e in
        front_fault ps (f ∷ fs) (f' ∷ fs') j low (omega (arith, other))
read_alike _ ps _ _ w w' seven (more {k} {f} {fs} {fs'} h) =
    let longer : length (ps ++ (f ∷ [])) + k ≡ 7 = omega (arith, length-append ps (f ∷ [])) in
    ap (λ (hs : List (List ℕ)). in_order hs w) (sym (append_assoc ps (f ∷ []) fs))
    ∙ read_alike k (ps ++ (f ∷ [])) fs fs' w w' longer h
    ∙ ap (λ (hs : List (List ℕ)). in_order hs w') (append_assoc ps (f ∷ []) fs')
read_alike _ ps _ _ w w' seven (over {f} {f'} {fs} {fs'}) =
    scan_alike (fault (ps ++ (f ∷ fs))) (fault (ps ++ (f' ∷ fs'))) _ _ 1 7 (λ j low high. front_fault ps (f ∷ fs) (f' ∷ fs') j low (omega arith))
    (over_last (ps ++ (f ∷ fs)) w (omega (arith, length-append ps (f ∷ fs)))
    ∙ sym (over_last (ps ++ (f' ∷ fs')) w' (omega (arith, length-append ps (f' ∷ fs')))))

pub read_first : (s : List ℕ) → read (take longest_input s) ≡ read s
read_first s = sym (read_alike 7 [] (fields s) (fields (take longest_input s)) (ended s) (ended (take longest_input s)) refl (alike_take 7 longest_input s (omega arith)))
