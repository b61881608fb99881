-- Numbers as bytes and back: the groups of seven bits are the remainders by 128, and the last byte is not 0 just where fewer bytes would not do.
-- Assumes nothing.
use mathlib.Core.Path.{◌≡◌, refl, ap, ap₂, ◌∙◌, sym, subst, subst⁻¹}
use mathlib.Core.Bool.{Bool, true, false, cond}
use mathlib.Core.List.{List, [], ◌∷◌, ◌++◌}
use mathlib.Core.Logic.{◌⊎◌, inl, inr, ⊎_elim}
use Prim.Native.Nat.{ℕ, suc, ◌+◌, ◌-◌, ◌*◌, ◌/◌, ◌%◌, ◌≤◌, ◌<◌}
use native.Mathlib.Numerals.{add-one}
use native.Mathlib.Omega.{arith}
use lib.Dec.{leb, ltb, eqb}
use lib.ListN.{length, length-append}
use lib.Seq.{slice, slice-cons, slice_empty, get_or-append_seam, get_or-append-add}
use borrow.Author.Tests.{ltb-true, ltb-false, leb-false, eqb-false}
use Rattle.paper.specs.Outcome.{accepted}
use Rattle.paper.proofs.Scan.{accepted_of}
use Rattle.numbers.specs.Numbers.{highest, bytes_of, Found, found, byte_at, number_at}
use Rattle.numbers.specs.Laws.{Bytes, Codec}
use Rattle.numbers.proofs.Cases.{one_byte, two_bytes, three_bytes, bytes_one, bytes_two, bytes_three, by_count}

-- ---- the three groups of seven bits
joined : (v q : ℕ) → q ≡ v / 128 → v % 128 + 128 * (q % 128) + 16384 * (v / 16384) ≡ v
joined v q e = omega arith

middle_group : (b c q : ℕ) → b < 128 → q ≡ b + 128 * c → q % 128 ≡ b
middle_group b c q middle e = omega arith

-- ---- read after write
module _ (bs : List ℕ) (i v : ℕ) where
  read_one : i < length bs → byte_at bs i ≡ v → v < 128 → number_at bs i ≡ accepted (found v (i + 1))
  read_one first low small = one_byte bs i first (omega arith) ∙ ap (λ (k : ℕ). accepted (found k (i + 1))) low

  read_two : i + 1 < length bs → byte_at bs i ≡ v % 128 + 128 → byte_at bs (i + 1) ≡ v / 128 → 128 ≤ v → v < 16384
      → number_at bs i ≡ accepted (found v (i + 2))
  read_two second low high more below =
      let whole : byte_at bs i - 128 + 128 * byte_at bs (i + 1) ≡ v = omega arith in
      two_bytes bs i (omega arith) second (λ none. omega arith) (omega arith)
      ∙ ap (λ (k : ℕ). accepted (found k (i + 2))) whole

  read_three : i + 2 < length bs → byte_at bs i ≡ v % 128 + 128 → byte_at bs (i + 1) ≡ v / 128 % 128 + 128 → byte_at bs (i + 2) ≡ v / 16384
      → 16384 ≤ v → v ≤ highest → number_at bs i ≡ accepted (found v (i + 3))
  read_three third low middle high still most =
      let whole : byte_at bs i - 128 + 128 * (byte_at bs (i + 1) - 128) + 16384 * byte_at bs (i + 2) ≡ v = omega (arith, joined v (v / 128) refl) in
      three_bytes bs i (omega arith) (omega arith) third (λ none. omega arith) (omega arith)
      ∙ ap (λ (k : ℕ). accepted (found k (i + 3))) whole

module _ (before after : List ℕ) (v : ℕ) (most : v ≤ highest) where
  abbrev Back : List ℕ → Type 0
  Back xs = number_at (before ++ (xs ++ after)) (length before) ≡ accepted (found v (length before + length xs))

  written : Back (bytes_of v)
  written =
      by_count v
      (λ small.
      let xs : List ℕ = v ∷ [] in
      subst⁻¹ Back (bytes_one v small)
      (read_one (before ++ (xs ++ after)) (length before) v (omega (arith, length-append before (xs ++ after)))
      (get_or-append_seam before v after 0)
      small))
      (λ more below.
      let xs : List ℕ = (v % 128 + 128) ∷ (v / 128) ∷ [] in
      subst⁻¹ Back (bytes_two v more below)
      (read_two (before ++ (xs ++ after)) (length before) v (omega (arith, length-append before (xs ++ after)))
      (get_or-append_seam before (v % 128 + 128) ((v / 128) ∷ after) 0)
      (get_or-append-add before (xs ++ after) 1 0)
      more below))
      (λ more still.
      let xs : List ℕ = (v % 128 + 128) ∷ (v / 128 % 128 + 128) ∷ (v / 16384) ∷ [] in
      subst⁻¹ Back (bytes_three v more still)
      (read_three (before ++ (xs ++ after)) (length before) v (omega (arith, length-append before (xs ++ after)))
      (get_or-append_seam before (v % 128 + 128) ((v / 128 % 128 + 128) ∷ (v / 16384) ∷ after) 0)
      (get_or-append-add before (xs ++ after) 1 0)
      (get_or-append-add before (xs ++ after) 2 0)
      still most))

-- ---- write after read: the bytes of a number that is put together from its groups
two_groups : (a b : ℕ) → 128 ≤ a → a < 256 → 0 < b → b < 128 → (a - 128 + 128 * b ≤ highest) × (bytes_of (a - 128 + 128 * b) ≡ a ∷ b ∷ [])
two_groups a b more byte some last =
    let low : (a - 128 + 128 * b) % 128 + 128 ≡ a = omega arith in
    let high : (a - 128 + 128 * b) / 128 ≡ b = omega arith in
    (omega arith, bytes_two (a - 128 + 128 * b) (omega arith) (omega arith) ∙ ap₂ (λ (x y : ℕ). x ∷ y ∷ []) low high)

three_groups : (a b c v : ℕ) → v ≡ a - 128 + 128 * (b - 128) + 16384 * c → 128 ≤ a → a < 256 → 128 ≤ b → b < 256 → 0 < c → c < 128
    → (v ≤ highest) × (bytes_of v ≡ a ∷ b ∷ c ∷ [])
three_groups a b c v whole more byte still byte2 some last =
    let low : v % 128 + 128 ≡ a = omega arith in
    let above : v / 128 ≡ b - 128 + 128 * c = omega arith in
    let middle : v / 128 % 128 + 128 ≡ b = omega (arith, middle_group (b - 128) c (v / 128) (omega arith) above) in
    let high : v / 16384 ≡ c = omega arith in (
      omega arith,
      bytes_three v (omega arith) (omega arith)
          ∙ ap₂ (λ (x y : ℕ). x ∷ y ∷ (v / 16384) ∷ []) low middle
          ∙ ap (λ (z : ℕ). a ∷ b ∷ z ∷ []) high,
    )

-- ---- write after read: a number that was accepted, byte by byte
choice : {A : Type 0} (t : Bool) (x y z : A) → cond t x y ≡ z → ((t ≡ true) × (x ≡ z)) ⊎ ((t ≡ false) × (y ≡ z))
choice true x y z h = inl (refl, h)
choice false x y z h = inr (refl, h)

positive : (n : ℕ) → (n ≡ 0 → ⊥) → 0 < n
positive n some = omega arith

module _ (bs : List ℕ) where
  part_more : (f g t : ℕ) (xs : List ℕ) → g ≡ suc f → f < t → t ≤ length bs → slice g t bs ≡ xs → slice f t bs ≡ byte_at bs f ∷ xs
  part_more f g t xs next before inside rest =
      slice-cons f t bs 0 before inside ∙ ap (λ (ys : List ℕ). byte_at bs f ∷ ys) (ap (λ (k : ℕ). slice k t bs) (sym next) ∙ rest)

  module _ (i v j : ℕ) where
    abbrev Same : ℕ → ℕ → Type 0
    Same w k = (w ≤ highest) × (k ≤ length bs) × (k ≡ i + length (bytes_of w)) × (slice i k bs ≡ bytes_of w)

    found_so : (w k : ℕ) (xs : List ℕ) → w ≤ highest → bytes_of w ≡ xs → k ≤ length bs → k ≡ i + length xs → slice i k bs ≡ xs
        → accepted (found w k) ≡ accepted (found v j) → Same v j
    found_so w k xs most bytes inside next part h =
        let same : found w k ≡ found v j = cc in
        subst (λ (r : Found). Same r.value r.next) same
        (most, inside, next ∙ ap (λ (ys : List ℕ). i + length ys) (sym bytes), part ∙ sym bytes)

    one_read : i < length bs → byte_at bs i < 128 → accepted (found (byte_at bs i) (i + 1)) ≡ accepted (found v j) → Same v j
    one_read first last h =
        found_so (byte_at bs i) (i + 1) (byte_at bs i ∷ []) (omega arith) (bytes_one (byte_at bs i) last) (omega arith) refl
        (part_more i (i + 1) (i + 1) [] (add-one i) (omega arith) (omega arith) (slice_empty (i + 1) bs))
        h

    two_read : Bytes bs → i + 1 < length bs → 128 ≤ byte_at bs i → 0 < byte_at bs (i + 1) → byte_at bs (i + 1) < 128
        → accepted (found (byte_at bs i - 128 + 128 * byte_at bs (i + 1)) (i + 2)) ≡ accepted (found v j) → Same v j
    two_read bytes second more some last h =
        let w = two_groups (byte_at bs i) (byte_at bs (i + 1)) more (bytes i (omega arith)) some last in
        found_so (byte_at bs i - 128 + 128 * byte_at bs (i + 1)) (i + 2) (byte_at bs i ∷ byte_at bs (i + 1) ∷ []) w.0 w.1 (omega arith) refl
        (part_more i (i + 1) (i + 2) _ (add-one i) (omega arith) (omega arith)
        (part_more (i + 1) (i + 2) (i + 2) [] (omega arith) (omega arith) (omega arith) (slice_empty (i + 2) bs)))
        h

    three_read : Bytes bs → i + 2 < length bs → 128 ≤ byte_at bs i → 128 ≤ byte_at bs (i + 1) → 0 < byte_at bs (i + 2) → byte_at bs (i + 2) < 128
        → accepted (found (byte_at bs i - 128 + 128 * (byte_at bs (i + 1) - 128) + 16384 * byte_at bs (i + 2)) (i + 3)) ≡ accepted (found v j) → Same v j
    three_read bytes third more still some last h =
        let whole = byte_at bs i - 128 + 128 * (byte_at bs (i + 1) - 128) + 16384 * byte_at bs (i + 2) in
        let w = three_groups (byte_at bs i) (byte_at bs (i + 1)) (byte_at bs (i + 2)) whole refl more (bytes i (omega arith)) still (bytes (i + 1) (omega arith)) some last in
        found_so whole (i + 3) (byte_at bs i ∷ byte_at bs (i + 1) ∷ byte_at bs (i + 2) ∷ []) w.0 w.1 (omega arith) refl
        (part_more i (i + 1) (i + 3) _ (add-one i) (omega arith) (omega arith)
        (part_more (i + 1) (i + 2) (i + 3) _ (omega arith) (omega arith) (omega arith)
        (part_more (i + 2) (i + 3) (i + 3) [] (omega arith) (omega arith) (omega arith) (slice_empty (i + 3) bs))))
        h

    read_back : Bytes bs → number_at bs i ≡ accepted (found v j) → Same v j
    read_back bytes h =
        let a = accepted_of (leb (length bs) i) 19 i _ (found v j) h in
        let first = leb-false (length bs) i a.0 in
        ⊎_elim (λ d. one_read first (ltb-true (byte_at bs i) 128 d.0) d.1)
        (λ d.
        let more = ltb-false (byte_at bs i) 128 d.0 in
        let e = accepted_of (leb (length bs) (i + 1)) 19 i _ (found v j) d.1 in
        let second = leb-false (length bs) (i + 1) e.0 in
        let f = accepted_of (eqb (byte_at bs (i + 1)) 0) 20 i _ (found v j) e.1 in
        let some = positive (byte_at bs (i + 1)) (eqb-false (byte_at bs (i + 1)) 0 f.0) in
        ⊎_elim (λ g. two_read bytes second more some (ltb-true (byte_at bs (i + 1)) 128 g.0) g.1)
        (λ g.
        let still = ltb-false (byte_at bs (i + 1)) 128 g.0 in
        let k = accepted_of (leb (length bs) (i + 2)) 19 i _ (found v j) g.1 in
        let l = accepted_of (eqb (byte_at bs (i + 2)) 0) 20 i _ (found v j) k.1 in
        let m = accepted_of (leb 128 (byte_at bs (i + 2))) 20 i _ (found v j) l.1 in
        three_read bytes (leb-false (length bs) (i + 2) k.0) more still
        (positive (byte_at bs (i + 2)) (eqb-false (byte_at bs (i + 2)) 0 l.0))
        (leb-false 128 (byte_at bs (i + 2)) m.0)
        m.1)
        (choice (ltb (byte_at bs (i + 1)) 128) _ _ _ f.1))
        (choice (ltb (byte_at bs i) 128) _ _ _ a.1)

pub codec : Codec
codec = record { read_written = written; written_read = read_back }
