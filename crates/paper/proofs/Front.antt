-- A column filled from the front, one entry a turn. Assumes nothing.
use mathlib.Core.Path.{◌≡◌, refl, ap, ap₂, ◌∙◌, sym, subst⁻¹}
use mathlib.Core.List.{List, [], ◌∷◌, ◌++◌, map, append_assoc}
use Prim.Native.Nat.{ℕ, zero, suc, ◌+◌, ◌≤◌, ◌<◌}
use native.Mathlib.Nat.{add-suc, suc-add, add-zero, zero-add}
use native.Mathlib.Numerals.{add-one}
use native.Mathlib.Omega.{arith}
use lib.ListN.{length, drop, get_or, set, length-append, length-drop}
use lib.Seq.{drop-cons, drop-drop, set_at, sets, sets-eq, take-append_seam, drop-append-add}
use Rattle.paper.specs.Outcome.{rows}
use Rattle.paper.specs.Memory.{written}
use Rattle.paper.proofs.Scan.{rows_length}

-- rows in two parts
pub rows_two : {A : Type 0} (f : ℕ → A) (i a m : ℕ) → rows f i (a + m) ≡ rows f i a ++ rows f (i + a) m
rows_two f i zero m = ap₂ (λ (j k : ℕ). rows f j k) (sym (add-zero i)) (zero-add m)
rows_two f i (suc a) m =
    ap (rows f i) (suc-add a m)
    ∙ ap (λ (xs : List _). f i ∷ xs) (rows_two f (suc i) a m ∙ ap (λ (j : ℕ). rows f (suc i) a ++ rows f j m) (suc-add i a ∙ sym (add-suc i a)))

-- from the next entry on
rows_later : {A : Type 0} (f : ℕ → A) (i k : ℕ) → rows f (suc i) k ≡ rows (λ j. f (suc j)) i k
rows_later f i zero = refl
rows_later f i (suc k) = ap (λ (xs : List _). f (suc i) ∷ xs) (rows_later f (suc i) k)

-- one entry more at the end
rows_snoc : {A : Type 0} (f : ℕ → A) (i k : ℕ) → rows f i (suc k) ≡ rows f i k ++ (f (i + k) ∷ [])
rows_snoc f i zero = ap (λ (j : ℕ). f j ∷ []) (sym (add-zero i))
rows_snoc f i (suc k) = ap (λ (xs : List _). f i ∷ xs) (rows_snoc f (suc i) k ∙ ap (λ (j : ℕ). rows f (suc i) k ++ (f j ∷ [])) (suc-add i k ∙ sym (add-suc i k)))

-- what a list's own entries make is the list under a map
pub rows_map : {A B : Type 0} (g : A → B) (l : List A) (d : A) → rows (λ j. g (get_or l j d)) 0 (length l) ≡ map g l
rows_map g [] d = refl
rows_map g (a ∷ l) d = ap (λ (xs : List _). g a ∷ xs) (rows_later (λ j. g (get_or (a ∷ l) j d)) 0 (length l) ∙ rows_map g l d)

pub map_rows : {A B : Type 0} (g : A → B) (f : ℕ → A) (i k : ℕ) → map g (rows f i k) ≡ rows (λ j. g (f j)) i k
map_rows g f i zero = refl
map_rows g f i (suc k) = ap (λ (xs : List _). g (f i) ∷ xs) (map_rows g f (suc i) k)

-- writing at the front keeps the length
pub written_length : {A : Type 0} (xs l : List A) → length xs ≤ length l → length (written xs l) ≡ length l
written_length xs l room = length-append xs (drop (length xs) l) ∙ omega (arith, length-drop (length xs) l)

module _ {A : Type 0} (f : ℕ → A) (l : List A) where
  pub front_length : (k : ℕ) → k ≤ length l → length (written (rows f 0 k) l) ≡ length l
  front_length k room = written_length (rows f 0 k) l (omega (arith, rows_length f 0 k))

  pub front_more : (i : ℕ) → i < length l → set (written (rows f 0 i) l) i (f i) ≡ written (rows f 0 (i + 1)) l
  front_more i inside =
      let long = rows_length f 0 i in
      let tail : drop (length (rows f 0 i)) l ≡ drop i l = ap (λ (k : ℕ). drop k l) long in
      let more : rows f 0 (i + 1) ≡ rows f 0 i ++ (f i ∷ []) = ap (rows f 0) (add-one i) ∙ rows_snoc f 0 i ∙ ap (λ (j : ℕ). rows f 0 i ++ (f j ∷ [])) (zero-add i) in
      let longer : length (rows f 0 (i + 1)) ≡ suc i = rows_length f 0 (i + 1) ∙ add-one i in
      ap (λ (t : List A). set (rows f 0 i ++ t) i (f i)) (tail ∙ drop-cons l i (f i) inside)
      ∙ set_at (rows f 0 i) _ (drop (suc i) l) (f i) i long
      ∙ sym (ap₂ (λ (xs : List A) (k : ℕ). xs ++ drop k l) more longer ∙ append_assoc (rows f 0 i) (f i ∷ []) (drop (suc i) l))

-- ---- a run of entries, stored from an index on
sets_snoc : (l : List ℕ) (i : ℕ) (xs : List ℕ) (a : ℕ) → sets l i (xs ++ (a ∷ [])) ≡ set (sets l i xs) (i + length xs) a
sets_snoc l i [] a = ap (λ (k : ℕ). set l k a) (sym (add-zero i))
sets_snoc l i (x ∷ xs) a =
    sets_snoc (set l i x) (suc i) xs a
    ∙ ap (λ (k : ℕ). set (sets (set l i x) (suc i) xs) k a) (suc-add i (length xs) ∙ sym (add-suc i (length xs)))

-- a run in two parts
pub sets_append : (l : List ℕ) (i : ℕ) (xs ys : List ℕ) → sets (sets l i xs) (i + length xs) ys ≡ sets l i (xs ++ ys)
sets_append l i [] ys = ap (λ (k : ℕ). sets l k ys) (add-zero i)
sets_append l i (x ∷ xs) ys =
    ap (λ (k : ℕ). sets (sets (set l i x) (suc i) xs) k ys) (add-suc i (length xs) ∙ sym (suc-add i (length xs))) ∙ sets_append (set l i x) (suc i) xs ys

-- a run stored right after the front makes the front longer
pub written_run : (xs ys l : List ℕ) → length xs + length ys ≤ length l → sets (written xs l) (length xs) ys ≡ written (xs ++ ys) l
written_run xs ys l room =
    let whole = written_length xs l (omega arith) in
    sets-eq ys (written xs l) (length xs) (subst⁻¹ (λ (k : ℕ). length xs + length ys ≤ k) whole room)
    ∙ ap₂ (λ (front rest : List ℕ). front ++ ys ++ rest) (take-append_seam xs (drop (length xs) l))
    (drop-append-add xs (drop (length xs) l) (length ys) ∙ drop-drop (length ys) (length xs) l)
    ∙ ap (λ (k : ℕ). xs ++ ys ++ drop k l) (sym (length-append xs ys))
