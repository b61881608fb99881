-- The columns of a uniform start: the leaves of a root all have its number, so a root's run of entries makes the front longer by a root.
-- Assumes nothing.
use mathlib.Core.Path.{◌≡◌, refl, ap, ap₂, ◌∙◌, sym}
use mathlib.Core.List.{List, [], ◌∷◌, ◌++◌}
use Prim.Native.Nat.{ℕ, zero, suc, ◌+◌, ◌*◌, ◌/◌, ◌%◌, ◌^◌, ◌≤◌, ◌<◌}
use native.Mathlib.Nat.{one-mul, mod-eq_of_lt, div-eq_of_lt-le, mul-le-mul_right}
use native.Mathlib.Omega.{arith}
use Rattle.std.proofs.Common.{length, set, take, drop}
use Rattle.std.proofs.lemmas.List.{append_assoc, append-nil, drop-drop, drop_all, length-take, length-drop}
use borrow.Rule.Slice.PartMut.{put_mid}
use lib.Pow.{pow-lt}
use lib.Seq.{sets, sets-eq}
use Rattle.paper.specs.Outcome.{rows}
use Rattle.paper.specs.Memory.{written}
use Rattle.paper.proofs.Scan.{rows_length}
use Rattle.paper.proofs.Front.{rows_two, written_run, front_more}
use Rattle.leaves.proofs.Span.{more_mul}

rows_equal : (f : ℕ → ℕ) (r i j m : ℕ) → ((k : ℕ) → i ≤ k → k < i + m → f k ≡ r) → rows f i m ≡ rows (λ k. r) j m
rows_equal f r i j zero same = refl
rows_equal f r i j (suc m) same =
    ap₂ (λ (x : ℕ) (xs : List ℕ). x ∷ xs) (same i (omega arith) (omega arith))
    (rows_equal f r (suc i) (suc j) m (λ k low high. same k (omega arith) (omega arith)))

-- ---- a part of a column, written by a loop or a fill of its own
module _ (f : ℕ → ℕ) (l part : List ℕ) (k : ℕ) where
  -- from entry i on
  pub stored_part : (i e : ℕ) → i + k ≤ length l → e ≡ k → part ≡ rows f 0 (length (take e (drop i l)))
      → put_mid i e l part ≡ sets l i (rows f 0 k)
  stored_part i e room same is =
      let long : length (take e (drop i l)) ≡ k = omega (arith, length-take {A = ℕ}, length-drop {A = ℕ}) in
      let whole : part ≡ rows f 0 k = is ∙ ap (rows f 0) long in
      let rest : drop e (drop i l) ≡ drop (i + length (rows f 0 k)) l =
      drop-drop e i l ∙ ap (λ (n : ℕ). drop (i + n) l) (same ∙ sym (rows_length f 0 k)) in
      ap₂ (λ (xs ys : List ℕ). take i l ++ (xs ++ ys)) whole rest
      ∙ sym (append_assoc (take i l) (rows f 0 k) (drop (i + length (rows f 0 k)) l))
      ∙ sym (sets-eq (rows f 0 k) l i (omega (arith, rows_length f 0 k)))

-- all of it, one entry a turn
module _ {A : Type 0} (f : ℕ → A) (l now : List A) (i : ℕ) (so_far : now ≡ written (rows f 0 i) l) where
  pub entry_more : (v : A) → i < length l → v ≡ f i → set now i v ≡ written (rows f 0 (i + 1)) l
  entry_more v inside is = ap₂ (λ (xs : List A) (a : A). set xs i a) so_far is ∙ front_more f l i inside

  pub entry_last : length l ≤ i → i ≤ length l → now ≡ rows f 0 (length l)
  entry_last past inside =
      let same : i ≡ length l = omega arith in
      so_far
      ∙ ap (λ (xs : List A). rows f 0 i ++ xs) (drop_all (length (rows f 0 i)) l (omega (arith, rows_length f 0 i)))
      ∙ append-nil (rows f 0 i)
      ∙ ap (rows f 0) same

-- ---- what the code shifts
pub each_is : (b : ℕ) → b < 64 → 1 * 2 ^ b % 2 ^ 64 ≡ 2 ^ b
each_is b small = ap (λ (k : ℕ). k % 2 ^ 64) (one-mul (2 ^ b)) ∙ mod-eq_of_lt (pow-lt small)

pub count_is : (b k : ℕ) → k * 2 ^ b ≤ 1048576 → k * 2 ^ b % 2 ^ 64 ≡ k * 2 ^ b
count_is b k few = mod-eq_of_lt (omega (arith, few))

module _ (b k r : ℕ) (few : k * 2 ^ b ≤ 1048576) (inside : r < k) where
  pub start_le : r * 2 ^ b + 2 ^ b ≤ k * 2 ^ b
  start_le = let next : r + 1 ≤ k = omega arith in omega (arith, more_mul r (2 ^ b), mul-le-mul_right (2 ^ b) next)

  pub start_is : r * 2 ^ b % 2 ^ 64 ≡ r * 2 ^ b
  start_is = mod-eq_of_lt (omega (arith, start_le))

  -- one root more
  pub root_more : (l : List ℕ) → k * 2 ^ b ≤ length l
      → sets (written (rows (λ i. i / 2 ^ b) 0 (r * 2 ^ b)) l) (r * 2 ^ b) (rows (λ i. r) 0 (2 ^ b))
      ≡ written (rows (λ i. i / 2 ^ b) 0 ((r + 1) * 2 ^ b)) l
  root_more l room =
      let f : ℕ → ℕ = λ i. i / 2 ^ b in
      let long : length (rows f 0 (r * 2 ^ b)) ≡ r * 2 ^ b = rows_length f 0 (r * 2 ^ b) in
      let run : length (rows (λ i. r) 0 (2 ^ b)) ≡ 2 ^ b = rows_length (λ i. r) 0 (2 ^ b) in
      let own : rows f (0 + r * 2 ^ b) (2 ^ b) ≡ rows (λ i. r) 0 (2 ^ b) =
      rows_equal f r (0 + r * 2 ^ b) 0 (2 ^ b) (λ j low high. div-eq_of_lt-le (2 ^ b) (omega arith) (omega (arith, more_mul r (2 ^ b)))) in
      ap (λ (i : ℕ). sets (written (rows f 0 (r * 2 ^ b)) l) i (rows (λ i. r) 0 (2 ^ b))) (sym long)
      ∙ written_run (rows f 0 (r * 2 ^ b)) (rows (λ i. r) 0 (2 ^ b)) l (omega (arith, start_le))
      ∙ ap (λ (xs : List ℕ). written xs l) (sym (ap (rows f 0) (more_mul r (2 ^ b)) ∙ rows_two f 0 (r * 2 ^ b) (2 ^ b) ∙ ap (λ (xs : List ℕ). rows f 0 (r * 2 ^ b) ++ xs) own))

-- the front of a column, from its first entry on
pub front_part : (f : ℕ → ℕ) (l part : List ℕ) (k e : ℕ) → k ≤ length l → e ≡ k → part ≡ rows f 0 (length (take e (drop 0 l)))
    → put_mid 0 e l part ≡ written (rows f 0 k) l
front_part f l part k e room same is =
    stored_part f l part k 0 e (omega arith) same is ∙ written_run [] (rows f 0 k) l (omega (arith, rows_length f 0 k))
