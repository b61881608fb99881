-- What is outside a field's range, test by test in the paper's order. Assumes nothing.
use mathlib.Core.Path.{◌≡◌, refl, ap₂, ◌∙◌, sym}
use mathlib.Core.Bool.{Bool, true, false}
use Prim.Native.Nat.{ℕ, ◌*◌, ◌/◌, ◌^◌, ◌≤◌, ◌<◌}
use native.Mathlib.Nat.{mul-le-mul, pow-le-pow_right}
use native.Mathlib.Omega.{arith}
use lib.Dec.{eqb, ltb}
use borrow.Author.Tests.{lt-ltb, le-ltb, eqb-true, ltb-true, ltb-false}
use Rattle.leaves.specs.Calls.{limit}
use Rattle.leaves.proofs.Starting.{too_many, few_enough}
use Rattle.forms.specs.Forms.{outside}

-- ---- too many leaves
module _ (k l : ℕ) where
  pub deep_many : (k ≡ 0 → ⊥) → 6 < l → ltb limit (k * 8 ^ l) ≡ true
  deep_many some deep =
      let high : 8 ^ 7 ≤ 8 ^ l = pow-le-pow_right (omega arith) deep in
      let one : 1 ≤ k = omega arith in
      let all : 1 * 8 ^ 7 ≤ k * 8 ^ l = mul-le-mul one high in
      lt-ltb limit (k * 8 ^ l) (omega arith)

  pub level_test : ltb (limit / 2 ^ (3 * l)) k ≡ ltb limit (k * 8 ^ l)
  level_test = by_test (ltb (limit / 2 ^ (3 * l)) k) refl
    where
      by_test : (t : Bool) → ltb (limit / 2 ^ (3 * l)) k ≡ t → ltb (limit / 2 ^ (3 * l)) k ≡ ltb limit (k * 8 ^ l)
      by_test true e = e ∙ sym (lt-ltb limit (k * 8 ^ l) (too_many k l limit (ltb-true _ k e)))
      by_test false e = e ∙ sym (le-ltb limit (k * 8 ^ l) (few_enough k l limit (ltb-false _ k e)))

module _ (v K L i : ℕ) where
  -- fields four and five matter to field seven alone
  pub outside_same : (K' L' : ℕ) → (i ≡ 7 → K ≡ K') → (i ≡ 7 → L ≡ L') → outside i v K L ≡ outside i v K' L'
  outside_same K' L' roots highest = by_number (eqb i 7) refl
    where
      by_number : (t : Bool) → eqb i 7 ≡ t → outside i v K L ≡ outside i v K' L'
      by_number true e =
          let seven = eqb-true i 7 e in
          ap₂ (λ (a b : ℕ). outside i v a b) (roots seven) (highest seven)
      by_number false e = simp e
