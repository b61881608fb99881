-- No output is longer than 196 bytes for the first line and 21 for each of 4,096 shares: a share has at most four digits, a leaf at most seven.
-- Assumes nothing.
use mathlib.Core.Path.{◌≡◌, refl}
use mathlib.Core.List.{List, [], ◌∷◌, ◌++◌}
use Prim.Native.Nat.{ℕ, zero, suc, ◌+◌, ◌-◌, ◌*◌, ◌/◌, ◌^◌, ◌≤◌, ◌<◌}
use native.Mathlib.Nat.{div-le_of_le-mul, mul-le-mul_right, le_trans}
use native.Mathlib.Omega.{arith}
use lib.ListN.{length, length-append}
use Rattle.paper.specs.Outcome.{Outcome, accepted, refused, rows}
use Rattle.shares.specs.Shares.{boundary}
use Rattle.forms.specs.declared.Form.{Form}
use Rattle.fields.specs.Fields.{lf}
use Rattle.text.specs.Text.{blank, decimal, counted, entry, word_refused, word_field, first_line, share_line, chained, share_lines, weights, printed, longest_output}
use Rattle.forms.proofs.Bounds.{Orderly}
use Rattle.text.proofs.Decimals.{decimal_few, entry_few}
use Rattle.text.proofs.Sharing.{first_few, boundary_first}

counted_in : (k n b : ℕ) → 1 ≤ k → n < 10 ^ k → length (counted n b) ≤ k + 1
counted_in k n b some below = omega (arith, decimal_few k n some below, length-append (decimal n) (b ∷ []))

line_few : (s a b : ℕ) → s < 4096 → a ≤ 1048576 → b ≤ 1048576 → length (share_line s a b) ≤ 21
line_few s a b share first after =
    let one = counted_in 4 s blank (omega arith) (omega arith) in
    let two = counted_in 7 a blank (omega arith) (omega arith) in
    let three = counted_in 7 (b - a) lf (omega arith) (omega arith) in
    omega (arith, length-append (counted s blank) (counted a blank ++ counted (b - a) lf), length-append (counted a blank) (counted (b - a) lf))

chained_few : (line : ℕ → List ℕ) (i k : ℕ) → ((s : ℕ) → s < i + k → length (line s) ≤ 21) → length (chained (rows line i k)) ≤ 21 * k
unfolding chained
chained_few line i zero short = omega arith
chained_few line i (suc k) short =
    let here = short i (omega arith) in
    let onward = chained_few line (suc i) k (λ s below. short s (omega arith)) in
    omega (arith, length-append (line i) (chained (rows line (suc i) k)))

module _ (f : Form) (sound : Orderly f) where
  pub boundary_few : (s : ℕ) → s ≤ f.shares → boundary f.shares (weights f) s ≤ f.leaves
  boundary_few s inside =
      let part : s * f.leaves / f.shares ≤ f.leaves = div-le_of_le-mul f.shares (mul-le-mul_right f.leaves inside) in
      omega (arith, boundary_first f sound s inside)

  form_few : length (printed (accepted f)) ≤ longest_output
  form_few =
      let few = sound.few_shares in
      let lines : length (share_lines (boundary f.shares (weights f)) f.shares) ≤ 21 * f.shares =
      chained_few _ 0 f.shares
      (λ s below. line_few s (boundary f.shares (weights f) s) (boundary f.shares (weights f) (s + 1)) (omega arith)
      (le_trans (boundary_few s (omega arith)) sound.few_leaves) (le_trans (boundary_few (s + 1) (omega arith)) sound.few_leaves)) in
      omega (arith, first_few f, length-append (first_line f) (share_lines (boundary f.shares (weights f)) f.shares))

pub printed_few : (o : Outcome Form) → ((f : Form) → o ≡ accepted f → Orderly f) → length (printed o) ≤ longest_output
printed_few (accepted f) sound = form_few f (sound f refl)
printed_few (refused number field) sound =
    omega (arith, entry_few word_refused number blank 29 (omega arith), entry_few word_field field lf 27 (omega arith), length-append (entry word_refused number blank) (entry word_field field lf))
