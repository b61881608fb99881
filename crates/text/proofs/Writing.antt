-- Bytes put one run after another are put as one run. Assumes nothing.
use mathlib.Core.Path.{◌≡◌, refl, ap, ap₂, ◌∙◌, sym}
use mathlib.Core.Bool.{Bool, true, false}
use mathlib.Core.List.{List, [], ◌∷◌, ◌++◌, append_assoc}
use Prim.Native.Nat.{ℕ, suc, ◌+◌, ◌-◌, ◌≤◌, ◌<◌, min}
use native.Mathlib.Numerals.{add-one}
use native.Mathlib.Omega.{arith}
use lib.Dec.{leb}
use lib.ListN.{length, get_or, set, take, drop, length-append, take-append-drop}
use borrow.Author.Tests.{leb-true, leb-false}
use lib.Seq.{sets, sets-eq, length-sets, set_out, take-suc, length-take-le, take_all}
use borrow.Rule.Slice.PartMut.{put_mid}
use Rattle.std.proofs.lemmas.Slice.{put_mid-paste}
use Rattle.std.proofs.lemmas.List.Edits.{paste_all}
use Rattle.paper.proofs.Front.{sets_append}
use Rattle.text.specs.Inner.{Put, Wrote}
use Rattle.text.specs.declared.writer.Writer.{Writer}

pub put_then : {t u : List ℕ} {at e r : ℕ} {l m l' : List ℕ} → Put t at l m e → Put u e m l' r → Put (t ++ u) at l l' r
put_then {t} {u} {at} {e} {r} {l} {m} {l'} p q =
    record {
      written = q.written ∙ ap₂ (λ (k : List ℕ) (i : ℕ). sets k i u) p.written p.end ∙ sets_append l at t u;
      end = q.end ∙ omega (arith, p.end, length-append t u);
    }

pub wrote_then : {t u : List ℕ} {w m w' : Writer} → Wrote t w m → Wrote u m w' → Wrote (t ++ u) w w'
wrote_then p q = record { same_buffer = q.same_buffer ∙ p.same_buffer; put = put_then p.put q.put }

-- a byte past the end is left out
pub byte_out : (l : List ℕ) (at b : ℕ) → length l ≤ at → l ≡ set l at b
byte_out l at b past = sym (set_out l at b past)

-- bytes past the end are left out
pub bytes_out : (t l : List ℕ) (at : ℕ) → length l ≤ at → l ≡ sets l at t
bytes_out [] l at past = refl
bytes_out (b ∷ t) l at past = bytes_out t l (suc at) (omega arith) ∙ ap (λ (m : List ℕ). sets m (suc at) t) (byte_out l at b past)

-- bytes that fit, copied into the k bytes from `at` on
pub bytes_fit : (l t part : List ℕ) (at k : ℕ) → at + length t ≤ length l → k ≡ length t → part ≡ t → put_mid at k l part ≡ sets l at t
bytes_fit l t part at k fits same is =
    let long : length part ≡ length t = ap length is in
    put_mid-paste at k l part part (length t) refl (sym same) (sym long)
    ∙ paste_all l at part (length t) (sym long)
    ∙ ap (λ (j : ℕ). take at l ++ (part ++ drop (at + j) l)) (sym long)
    ∙ sym (append_assoc (take at l) part _)
    ∙ sym (sets-eq part l at (omega (arith, long, fits)))
    ∙ ap (sets l at) is

-- ---- some bytes, one by one
module _ (l t : List ℕ) (at : ℕ) where
  pub byte_more : (m m' : List ℕ) (i : ℕ) → i < length t → m ≡ sets l at (take i t) → m' ≡ set m (at + i) (get_or t i 0) → m' ≡ sets l at (take (i + 1) t)
  byte_more m m' i inside so_far stored =
      let long : length (take i t) ≡ i = length-take-le i t (omega arith) in
      stored
      ∙ ap₂ (λ (k : List ℕ) (j : ℕ). set k (at + j) (get_or t i 0)) so_far (sym long)
      ∙ sets_append l at (take i t) (get_or t i 0 ∷ [])
      ∙ ap (sets l at) (sym (ap (λ (j : ℕ). take j t) (add-one i) ∙ take-suc t i 0 inside))

  -- all of them, or as many as fit
  pub bytes_done : (m : List ℕ) (i : ℕ) → min (length t) (length l - at) ≤ i → m ≡ sets l at (take i t) → m ≡ sets l at t
  bytes_done m i past so_far = by_length (leb (length t) i) refl
    where
      by_length : (x : Bool) → leb (length t) i ≡ x → m ≡ sets l at t
      by_length true e = so_far ∙ ap (sets l at) (take_all i t (leb-true (length t) i e))
      by_length false e =
          let short = leb-false (length t) i e in
          let long : length (take i t) ≡ i = length-take-le i t (omega arith) in
          so_far
          ∙ bytes_out (drop i t) (sets l at (take i t)) (at + length (take i t)) (omega (arith, length-sets l at (take i t), long))
          ∙ sets_append l at (take i t) (drop i t)
          ∙ ap (sets l at) (take-append-drop i t)
