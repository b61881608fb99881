-- Share s of equal weights begins at leaf s·n / p, and its line follows those of the shares before it. Assumes nothing.
use mathlib.Core.Path.{◌≡◌, refl, ap, ◌∙◌, sym, subst, subst⁻¹}
use mathlib.Core.List.{List, [], ◌∷◌, ◌++◌, append_assoc, append-nil}
use Prim.Native.Nat.{ℕ, ◌+◌, ◌*◌, ◌/◌}
use native.Mathlib.Nat.{zero-mul, zero-add, add-zero, zero-div}
use Rattle.paper.specs.Outcome.{rows}
use Rattle.paper.proofs.Front.{rows_two}
use Rattle.text.specs.Text.{share_line, chained}
use Rattle.text.specs.Inner.{Wrote}
use Rattle.text.specs.declared.writer.Writer.{Writer}
use Rattle.text.proofs.Writing.{wrote_then}

-- ---- chained lines
chained_append : (ls ms : List (List ℕ)) → chained (ls ++ ms) ≡ chained ls ++ chained ms
unfolding chained
chained_append [] ms = refl
chained_append (l ∷ ls) ms = ap (λ (t : List ℕ). l ++ t) (chained_append ls ms) ∙ sym (append_assoc l (chained ls) (chained ms))

chained_one : (l : List ℕ) → chained (l ∷ []) ≡ l
unfolding chained
chained_one l = append-nil l

chained_more : (f : ℕ → List ℕ) (s : ℕ) → chained (rows f 0 (s + 1)) ≡ chained (rows f 0 s) ++ f s
chained_more f s =
    ap chained (rows_two f 0 s 1)
    ∙ chained_append (rows f 0 s) (rows f (0 + s) 1)
    ∙ ap (λ (t : List ℕ). chained (rows f 0 s) ++ t) (chained_one (f (0 + s)) ∙ ap f (zero-add s))

-- ---- where the shares begin
module _ (n p : ℕ) where
  pub first_zero : 0 ≡ 0 * n / p
  first_zero = sym (ap (λ (m : ℕ). m / p) (zero-mul n) ∙ zero-div p)

-- ---- the lines so far
module _ (n p : ℕ) (w : Writer) where
  abbrev line : ℕ → List ℕ
  line s = share_line s (s * n / p) ((s + 1) * n / p)

  abbrev pub Listed : ℕ → Writer → Type 0
  Listed s w' = Wrote (chained (rows line 0 s)) w w'

  pub listed_none : Listed 0 w
  unfolding chained
  listed_none = record { same_buffer = refl; put = record { written = refl; end = sym (add-zero w.at) } }

  pub listed_more : (s a : ℕ) {m w' : Writer} → a ≡ s * n / p → Listed s m → Wrote (share_line s a ((s + 1) * n / p)) m w' → Listed (s + 1) w'
  listed_more s a {m} {w'} first so_far more =
      subst⁻¹ (λ (t : List ℕ). Wrote t w w') (chained_more line s)
      (wrote_then so_far (subst (λ (x : ℕ). Wrote (share_line s x ((s + 1) * n / p)) m w') first more))
