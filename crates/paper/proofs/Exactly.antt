-- Counts: two lists of the same, each once, are equally long; so where k entries, no two alike, are all that has a property, exactly k
-- have it. Assumes nothing.
use mathlib.Core.Path.{◌≡◌, refl, ap, ◌∙◌, sym, subst⁻¹}
use mathlib.Core.Logic.{◌↔◌, ⊎_elim, ∥∥₁_elim, ∥∥₁_map}
use mathlib.Core.HLevel.{⊥_prop}
use mathlib.Core.List.{List, Mem, Nodup, Nodup-nil, Nodup-cons}
use mathlib.Core.List.Memᴰ
use mathlib.Core.List.{Memᴰ}
use mathlib.Core.List.{Permᴰ, perm_ext_iff_of_Nodup}
use Prim.Native.Nat.{ℕ, zero, suc, ◌+◌, ◌<◌}
use native.Mathlib.Nat.{ℕ_set, add-zero, zero-add, add-suc, suc-add}
use native.Mathlib.Omega.{arith}
use lib.ListN.{length}
use Rattle.paper.specs.Outcome.{rows}
use Rattle.paper.specs.Exactly.{Lists, Exactly}
use Rattle.paper.proofs.Scan.{rows_length}

-- ---- lists with the same entries, each once, are equally long
perm_length : {A : Type 0} {s t : List A} → Permᴰ s t → length s ≡ length t
perm_length Permᴰ.nil = refl
perm_length (Permᴰ.cons e d) = ap suc (perm_length d)
perm_length (Permᴰ.swap e f) = refl
perm_length (Permᴰ.trans d e) = perm_length d ∙ perm_length e

length_same : {A : Type 0} (s t : List A) → Nodup s → Nodup t → ((a : A) → Mem a s ↔ Mem a t) → length s ≡ length t
length_same s t once_s once_t same = ∥∥₁_elim ((perm_ext_iff_of_Nodup once_s once_t).1 same) (ℕ_set (length s) (length t)) perm_length

pub lists_length : {A : Type 0} (P : A → Type 0) (s t : List A) → Lists P s → Lists P t → length s ≡ length t
lists_length P s t in_s in_t =
    length_same s t in_s.once in_t.once
    (λ a. (λ m. (in_t.exactly a).1 ((in_s.exactly a).0 m), λ m. (in_s.exactly a).1 ((in_t.exactly a).0 m)))

-- ---- the entries of rows
module _ {A : Type 0} (entry : ℕ → A) where
  later : (i j : ℕ) → entry (i + suc j) ≡ entry (suc i + j)
  later i j = ap entry (add-suc i j ∙ sym (suc-add i j))

  rows_all : (i k j : ℕ) → j < k → Memᴰ (entry (i + j)) (rows entry i k)
  rows_all i zero j below = absurd (omega arith)
  rows_all i (suc k) zero below = Memᴰ.head (ap entry (add-zero i))
  rows_all i (suc k) (suc j) below = Memᴰ.tail (Memᴰ.cast (later i j) (rows_all (suc i) k j (omega arith)))

  rows_only : (i k : ℕ) (a : A) → Memᴰ a (rows entry i k) → (j : ℕ) × (j < k × a ≡ entry (i + j))
  rows_only i zero a m = absurd (Memᴰ.not-nil m)
  rows_only i (suc k) a m =
      ⊎_elim {C = (j : ℕ) × (j < suc k × a ≡ entry (i + j))}
      (λ (e : a ≡ entry i). (0, (omega arith, e ∙ sym (ap entry (add-zero i)))))
      (λ (n : Memᴰ a (rows entry (suc i) k)).
      let r = rows_only (suc i) k a n in (suc r.0, (omega (arith, r.1.0), r.1.1 ∙ sym (later i r.0))))
      (Memᴰ.cases_cons m)

  -- where no two entries from i on are alike
  rows_once : (i k : ℕ) → ((j m : ℕ) → j < m → m < k → entry (i + j) ≡ entry (i + m) → ⊥) → Nodup (rows entry i k)
  rows_once i zero apart = Nodup-nil
  rows_once i (suc k) apart =
      Nodup-cons.1 (fresh, rows_once (suc i) k (λ j m less below e. apart (suc j) (suc m) (omega arith) (omega arith) (later i j ∙ e ∙ sym (later i m))))
    where
      fresh : ¬ Mem (entry i) (rows entry (suc i) k)
      fresh m =
          ∥∥₁_elim m ⊥_prop λ d.
          let r = rows_only (suc i) k (entry i) d in
          apart 0 (suc r.0) (omega arith) (omega (arith, r.1.0)) (ap entry (add-zero i) ∙ r.1.1 ∙ sym (later i r.0))

-- ---- k entries, no two alike, that are all that has a property; the property can be read off its mere truth
module _ {A : Type 0} (P : A → Type 0) (entry : ℕ → A) (k : ℕ)
    (read : (a : A) → ∥ P a ∥₁ → P a)
    (holds : (i : ℕ) → i < k → P (entry i))
    (found : (a : A) → P a → (i : ℕ) × (i < k × a ≡ entry i))
    (apart : (i j : ℕ) → i < j → j < k → entry i ≡ entry j → ⊥) where
  at_zero : (i : ℕ) → entry (0 + i) ≡ entry i
  at_zero i = ap entry (zero-add i)

  lists_rows : Lists P (rows entry 0 k)
  lists_rows =
      record {
        once = rows_once entry 0 k (λ i j less below e. apart i j less below (sym (at_zero i) ∙ e ∙ at_zero j));
        exactly = λ a. (there a, back a);
      }
    where
      there : (a : A) → Mem a (rows entry 0 k) → P a
      there a m =
          read a
          (∥∥₁_map m λ d.
          let r = rows_only entry 0 k a d in
          subst⁻¹ P (r.1.1 ∙ at_zero r.0) (holds r.0 r.1.0))

      back : (a : A) → P a → Mem a (rows entry 0 k)
      back a h =
          let r = found a h in
          ∣ Memᴰ.cast (r.1.1 ∙ sym (at_zero r.0)) (rows_all entry 0 k r.0 r.1.0) ∣₁

  pub exactly_rows : Exactly k P
  exactly_rows =
      record {
        listed = (rows entry 0 k, lists_rows);
        counts = λ es lists. lists_length P es (rows entry 0 k) lists lists_rows ∙ rows_length entry 0 k;
      }
