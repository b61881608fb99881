-- The shares that are printed are those of the list's own call: all weights of the uniform list are 1, and equal weights divide by formula 27.
-- Assumes nothing.
use mathlib.Core.Path.{◌≡◌, refl, ap, ap₂, ◌∙◌, sym}
use mathlib.Core.List.{List, ◌∷◌, ◌++◌}
use Prim.Native.Nat.{ℕ, zero, suc, ◌+◌, ◌*◌, ◌/◌, ◌^◌, ◌≤◌, ◌<◌}
use native.Mathlib.Omega.{arith}
use lib.ListN.{length, replicate, length-append}
use Rattle.paper.specs.Outcome.{Outcome, accepted, refused, rows}
use Rattle.paper.proofs.Front.{map_rows}
use Rattle.leaves.specs.Leaves.{Leaf}
use Rattle.shares.specs.Shares.{boundary}
use Rattle.shares.proofs.Promised.{promised}
use Rattle.forms.specs.declared.Form.{Form}
use Rattle.fields.specs.Fields.{lf}
use Rattle.text.specs.Text.{blank, entry, word_order, word_site, word_model, word_roots, word_level, word_leaves, word_shares, first_line, share_line, chained, share_lines, weights, printed}
use Rattle.text.specs.Inner.{spelled}
use Rattle.forms.proofs.Bounds.{Orderly}
use Rattle.text.proofs.Decimals.{entry_few}

-- ---- all weights are 1
rows_same : {A : Type 0} (a : A) (i k : ℕ) → rows (λ j. a) i k ≡ replicate k a
rows_same a i zero = refl
rows_same a i (suc k) = ap (λ (xs : List _). a ∷ xs) (rows_same a (suc i) k)

pub weights_one : (f : Form) → weights f ≡ replicate (f.roots * 8 ^ f.level) 1
weights_one f = map_rows (λ (v : Leaf). 1) _ 0 (f.roots * 8 ^ f.level) ∙ rows_same 1 0 (f.roots * 8 ^ f.level)

module _ (f : Form) (sound : Orderly f) where
  pub boundary_first : (s : ℕ) → s ≤ f.shares → s * f.leaves / f.shares ≡ boundary f.shares (weights f) s
  boundary_first s inside =
      let one : 0 < 1 = omega arith in
      sym (ap (λ (ws : List ℕ). boundary f.shares ws s) (weights_one f)
      ∙ promised.equal f.shares (f.roots * 8 ^ f.level) 1 s sound.some_share one inside
      ∙ ap (λ (n : ℕ). s * n / f.shares) (sym sound.counted))

-- ---- lines that begin alike are alike
rows_alike : {A : Type 0} (g h : ℕ → A) (i k : ℕ) → ((s : ℕ) → s < i + k → g s ≡ h s) → rows g i k ≡ rows h i k
rows_alike g h i zero alike = refl
rows_alike g h i (suc k) alike =
    ap₂ (λ (a : _) (bs : List _). a ∷ bs) (alike i (omega arith)) (rows_alike g h (suc i) k (λ s below. alike s (omega arith)))

lines_alike : (start start' : ℕ → ℕ) (P : ℕ) → ((s : ℕ) → s ≤ P → start s ≡ start' s) → share_lines start P ≡ share_lines start' P
lines_alike start start' P alike =
    ap chained
    (rows_alike _ _ 0 P (λ s below. ap₂ (share_line s) (alike s (omega arith)) (alike (s + 1) (omega arith))))

-- what is spelled is what is printed
pub spelled_printed : (o : Outcome Form) → ((f : Form) → o ≡ accepted f → Orderly f) → spelled o ≡ printed o
spelled_printed (accepted f) sound = ap (λ (t : List ℕ). first_line f ++ t) (lines_alike _ _ f.shares (boundary_first f (sound f refl)))
spelled_printed (refused number field) sound = refl

-- ---- how far the first line may reach
seven_few : (a b c d e g h : List ℕ) → length a ≤ 28 → length b ≤ 28 → length c ≤ 28 → length d ≤ 28 → length e ≤ 28 → length g ≤ 28 → length h ≤ 28
    → length (a ++ (b ++ (c ++ (d ++ (e ++ (g ++ h)))))) ≤ 196
seven_few a b c d e g h p q r s t u v = simp length-append (omega arith)

pub first_few : (f : Form) → length (first_line f) ≤ 196
first_few f =
    seven_few (entry word_order f.order blank) (entry word_site f.site blank) (entry word_model f.model blank) (entry word_roots f.roots blank)
    (entry word_level f.level blank) (entry word_leaves f.leaves blank) (entry word_shares f.shares lf)
    (entry_few word_order f.order blank 28 (omega arith)) (entry_few word_site f.site blank 28 (omega arith))
    (entry_few word_model f.model blank 28 (omega arith)) (entry_few word_roots f.roots blank 28 (omega arith))
    (entry_few word_level f.level blank 28 (omega arith)) (entry_few word_leaves f.leaves blank 28 (omega arith))
    (entry_few word_shares f.shares lf 28 (omega arith))
