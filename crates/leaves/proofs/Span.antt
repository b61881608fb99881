-- Where a leaf ends: n^l leaves of level l fill a root, so a leaf ends within its root or at the root's end. Assumes nothing.
use mathlib.Core.Path.{◌≡◌, ap, ◌∙◌, sym}
use Prim.Native.Nat.{ℕ, ◌+◌, ◌-◌, ◌*◌, ◌/◌, ◌%◌, ◌^◌, ◌≤◌, ◌<◌}
use native.Mathlib.Nat.{add-mul, one-mul, one-le-pow, mul-le-mul_right, div-eq_of_lt-le, mul-add-mod_self_right, mod-eq_of_lt}
use native.Mathlib.Omega.{arith}
use lib.Pow.{pow-add}
use borrow.Author.Tests.{eq-eqb, ne_eqb}
use Rattle.leaves.specs.Leaves.{Leaf, spot_at, span, begin, past, end_of}

-- one more
pub more_mul : (a b : ℕ) → (a + 1) * b ≡ a * b + b
more_mul a b = add-mul a 1 b ∙ ap (λ (k : ℕ). a * b + k) (one-mul b)

-- `q * m + r` with r below m has the quotient q and the rest r
pub quotient : (m q r x : ℕ) → x ≡ q * m + r → r < m → x / m ≡ q
quotient m q r x e small = let whole = more_mul q m in div-eq_of_lt-le m (omega arith) (omega arith)

pub rest : (m q r x : ℕ) → x ≡ q * m + r → r < m → x % m ≡ r
rest m q r x e small = ap (λ (k : ℕ). k % m) e ∙ mul-add-mod_self_right q m r ∙ mod-eq_of_lt small

pub power_pos : (n l : ℕ) → 0 < n → 0 < n ^ l
power_pos n l positive = one-le-pow l n positive

module _ (n L : ℕ) where
  -- the leaves of one level fill a root
  pub fill : (l : ℕ) → l ≤ L → n ^ l * span n L l ≡ n ^ L
  fill l shallow =
      let together : l + (L - l) ≡ L = omega arith in
      sym (pow-add n l (L - l)) ∙ ap (λ (k : ℕ). n ^ k) together

  module _ (v : Leaf) where
    pub past_begin : past n L v ≡ begin n L v + span n L v.level
    past_begin = more_mul v.position (span n L v.level)

    pub past_le : v.level ≤ L → v.position < n ^ v.level → past n L v ≤ n ^ L
    past_le shallow below =
        let next : v.position + 1 ≤ n ^ v.level = omega arith in
        omega (arith, mul-le-mul_right (span n L v.level) next, fill v.level shallow)

    pub end_last : past n L v ≡ n ^ L → end_of n L v ≡ spot_at (v.root + 1) 0
    end_last last = simp (eq-eqb (past n L v) (n ^ L) last)

    pub end_within : (past n L v ≡ n ^ L → ⊥) → end_of n L v ≡ spot_at v.root (past n L v)
    end_within within = simp (ne_eqb (past n L v) (n ^ L) within)
