-- A signed number is a difference of two natural ones, and sums, differences and multiples of differences are again: so what is asked of signed
-- numbers is asked of natural ones. Assumes nothing.
use mathlib.Core.Path.{◌≡◌, sym, ap, ◌∙◌}
use mathlib.Core.Bool.{Bool, true, false, not, cond}
use Prim.Native.Nat.{ℕ, zero, suc, ◌+◌, ◌-◌, ◌*◌, ◌≤◌, ◌<◌}
use native.Mathlib.Nat.{mul-add}
use native.Mathlib.Omega.{arith}
use lib.Dec.{T, ltb, ltb→lt, nltb→le}
use lib.IntN.{ℤ, pos, negsuc, neg_ℤ, nat_abs, sub_ℕ, ◌+ℤ◌, ◌-ℤ◌, ◌*ℤ◌, *ℤ_comm}

-- z is a - b
abbrev difference : ℤ → ℕ → ℕ → Type 0
difference (pos n) a b = a ≡ n + b
difference (negsuc n) a b = a + suc n ≡ b

pub record Is (z : ℤ) (a b : ℕ) : Type 0 where
  pub is : difference z a b

-- ---- the operations

by_test : (t : Bool) (x y : ℤ) (a b : ℕ) → (T t → difference x a b) → (T (not t) → difference y a b) → difference (cond t x y) a b
by_test true x y a b f g = f tt
by_test false x y a b f g = g tt

of_sub : (m n a b : ℕ) → a + n ≡ b + m → difference (sub_ℕ m n) a b
of_sub m n a b e =
    by_test (ltb m n) (negsuc (n - suc m)) (pos (m - n)) a b (λ t. below m n a b e (ltb→lt m n t)) (λ t. above m n a b e (nltb→le m n t))
  where
    below : (m n a b : ℕ) → a + n ≡ b + m → m < n → a + suc (n - suc m) ≡ b
    below m n a b e h = omega arith

    above : (m n a b : ℕ) → a + n ≡ b + m → n ≤ m → a ≡ m - n + b
    above m n a b e h = omega arith

of_neg : (n a b : ℕ) → a + n ≡ b → difference (neg_ℤ (pos n)) a b
of_neg zero a b e = omega arith
of_neg (suc n) a b e = e

sum : (z w : ℤ) (a b c d : ℕ) → difference z a b → difference w c d → difference (z +ℤ w) (a + c) (b + d)
sum (pos m) (pos n) a b c d e f = omega arith
sum (pos m) (negsuc n) a b c d e f = of_sub m (suc n) (a + c) (b + d) (omega arith)
sum (negsuc m) (pos n) a b c d e f = of_sub n (suc m) (a + c) (b + d) (omega arith)
sum (negsuc m) (negsuc n) a b c d e f = omega arith

turned : (z : ℤ) (a b : ℕ) → difference z a b → difference (neg_ℤ z) b a
turned (pos n) a b e = of_neg n b a (omega arith)
turned (negsuc n) a b e = omega arith

times : (k : ℕ) (z : ℤ) (a b : ℕ) → difference z a b → difference (pos k *ℤ z) (k * a) (k * b)
times k (pos n) a b e = ap (λ (x : ℕ). k * x) e ∙ mul-add k n b
times k (negsuc n) a b e = of_neg (k * suc n) (k * a) (k * b) (sym (mul-add k a (suc n)) ∙ ap (λ (x : ℕ). k * x) e)

module _ {z : ℤ} {a b : ℕ} (h : Is z a b) where
  pub add : {w : ℤ} {c d : ℕ} → Is w c d → Is (z +ℤ w) (a + c) (b + d)
  add {w} {c} {d} k = record { is = sum z w a b c d h.is k.is }

  pub neg : Is (neg_ℤ z) b a
  neg = record { is = turned z a b h.is }

  pub mul : (k : ℕ) → Is (pos k *ℤ z) (k * a) (k * b)
  mul k = record { is = times k z a b h.is }

pub sub : {z w : ℤ} {a b c d : ℕ} → Is z a b → Is w c d → Is (z -ℤ w) (a + d) (b + c)
sub h k = add h (neg k)

pub mul_right : {z : ℤ} {a b : ℕ} → Is z a b → (k : ℕ) → Is (z *ℤ pos k) (k * a) (k * b)
mul_right {z} h k = rw (*ℤ_comm z (pos k)) (mul h k)

-- ---- other pairs, and what they say of the number

renamed : (z : ℤ) (a b c d : ℕ) → difference z a b → a + d ≡ c + b → difference z c d
renamed (pos n) a b c d e f = omega arith
renamed (negsuc n) a b c d e f = omega arith

small : (z : ℤ) (a b k : ℕ) → difference z a b → a ≤ b + k → b ≤ a + k → nat_abs z ≤ k
small (pos n) a b k e f g = omega arith
small (negsuc n) a b k e f g = omega arith

equal : (z w : ℤ) (a b : ℕ) → difference z a b → difference w a b → z ≡ w
equal (pos m) (pos n) a b e f = ap pos (omega arith)
equal (pos m) (negsuc n) a b e f = absurd (omega arith)
equal (negsuc m) (pos n) a b e f = absurd (omega arith)
equal (negsuc m) (negsuc n) a b e f = ap negsuc (omega arith)

pub rename : {z : ℤ} {a b : ℕ} (c d : ℕ) → Is z a b → a + d ≡ c + b → Is z c d
rename {z} {a} {b} c d h e = record { is = renamed z a b c d h.is e }

pub bound : {z : ℤ} {a b : ℕ} (k : ℕ) → Is z a b → a ≤ b + k → b ≤ a + k → nat_abs z ≤ k
bound {z} {a} {b} k h f g = small z a b k h.is f g

pub same : {z w : ℤ} {a b : ℕ} → Is z a b → Is w a b → z ≡ w
same {z} {w} {a} {b} h k = equal z w a b h.is k.is
