-- A call that prints some bytes into a lent buffer: 14 where they do not fit, else they stand at its front; and a program that has room for them.
-- Assumes nothing.
use mathlib.Core.Path.{◌≡◌, refl, ap, ◌∙◌}
use mathlib.Core.Bool.{true}
use mathlib.Core.List.{List, ◌++◌}
use Prim.Native.Nat.{ℕ, ◌+◌, ◌≤◌}
use native.Mathlib.Nat.{zero-add}
use native.Mathlib.Omega.{arith}
use lib.ListN.{length, drop}
use lib.Seq.{sets, sets-eq}
use borrow.Author.Tests.{le-ltb}
use Rattle.paper.specs.Outcome.{accepted}
use Rattle.paper.specs.Memory.{written}
use Rattle.std.specs.declared.result.Result.{Result}
use Rattle.std.specs.Result.{is_ok}
use Rattle.std.specs.declared.result.Result.TheVariants.{Ok, Err}
use Rattle.paper.specs.declared.Refusal.{Refusal}
use Rattle.paper.specs.Refusals.{outcome_of}
use Rattle.paper.proofs.Memory.{accepts}
use Rattle.paper.proofs.Scan.{never}
use Rattle.text.specs.Text.{printing, Prints}

-- ---- each way out of the call
pub laid : (t m : List ℕ) → length t ≤ length m → sets m 0 t ≡ written t m
laid t m room =
    let all : 0 + length t ≤ length m = omega arith in
    sets-eq t m 0 all ∙ ap (λ (k : ℕ). t ++ drop k m) (zero-add (length t))

module _ (t m : List ℕ) (size : ℕ) (long : size ≡ length t) where
  pub prints : (m' : List ℕ) → size ≤ length m → m' ≡ sets m 0 t → Prints t (Ok size) m m'
  prints m' room put =
      let fits : length t ≤ length m = omega arith in
      accepts outcome_of length written (printing t (length m)) _ m t m' (simp (le-ltb (length m) (length t) fits)) (ap accepted long) (put ∙ laid t m fits)

-- ---- a program that calls it
pub answers : (t m m' : List ℕ) (r : Result ℕ Refusal) → Prints t r m m' → length t ≤ length m → is_ok r ≡ true
answers t m m' (Ok n) call fits = refl
answers t m m' (Err e) call fits = never (length t) _ _ (call.answer ∙ simp (le-ltb (length m) (length t) fits))
