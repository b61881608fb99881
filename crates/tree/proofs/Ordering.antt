-- The order of two is a total order: it compares two pairs of numbers, and the pair of an element determines it. Assumes nothing.
use Rattle.std.proofs.Common.{◌≡◌, ℕ, ◌-◌, ◌*◌, ◌^◌, ◌<◌, ◌≤◌, ◌⊎◌, ◌↔◌, sym, refl, ap, ◌∙◌, inl, inr, ⊎_elim, arith, le-ltb, lt-ltb}
use native.Mathlib.Nat.{eq_of_mul-eq-mul_right}
use native.Mathlib.Decide.{dec_lt}
use Rattle.paper.specs.Outcome.{Order, less, same, greater}
use Rattle.tree.specs.Shape.{Shape}
use Rattle.tree.specs.Words.{compared, position, first, order}
use Rattle.tree.specs.Laws.{Sound, Lawful, TotalOrder}
use Rattle.tree.proofs.Digits.{power_pos}
use Rattle.tree.proofs.RoundTrip.{place_injective}
use Rattle.tree.proofs.Descent.{of_first}

-- ---- comparing numbers
pub compared_less : (a b : ℕ) (o : Order) → a < b → compared a b o ≡ less
compared_less a b o below = simp (lt-ltb a b below)

pub compared_greater : (a b : ℕ) (o : Order) → b < a → compared a b o ≡ greater
compared_greater a b o above = simp (le-ltb a b (omega arith), lt-ltb b a above)

pub compared_same : (a b : ℕ) (o : Order) → a ≡ b → compared a b o ≡ o
compared_same a b o equal = simp (le-ltb a b (omega arith), le-ltb b a (omega arith))

three : (a b : ℕ) → (a < b) ⊎ ((a ≡ b) ⊎ (b < a))
three a b = decide (dec_lt a b) (dec_lt b a)
  where
    decide : Dec (a < b) → Dec (b < a) → (a < b) ⊎ ((a ≡ b) ⊎ (b < a))
    decide (yes below) other = inl below
    decide (no above) (yes other) = inr (inr other)
    decide (no above) (no below) = inr (inl (omega arith))

-- by p against q, then by l against m
abbrev pub lex : ℕ → ℕ → ℕ → ℕ → Order
lex p l q m = compared p q (compared l m same)

-- the three ways in which two pairs of numbers can stand
data Stand (p l q m : ℕ) : Type 0 where
  before : lex p l q m ≡ less → lex q m p l ≡ greater → (p < q) ⊎ ((p ≡ q) × (l < m)) → Stand p l q m
  level : lex p l q m ≡ same → p ≡ q → l ≡ m → Stand p l q m
  after : lex p l q m ≡ greater → lex q m p l ≡ less → Stand p l q m

stand : (p l q m : ℕ) → Stand p l q m
stand p l q m = ⊎_elim left (⊎_elim middle right) (three p q)
  where
    left : p < q → Stand p l q m
    left below = before (compared_less p q _ below) (compared_greater q p _ below) (inl below)

    right : q < p → Stand p l q m
    right above = after (compared_greater p q _ above) (compared_less q p _ above)

    middle : p ≡ q → Stand p l q m
    middle e =
        ⊎_elim
        (λ (b : l < m). before (compared_same p q _ e ∙ compared_less l m _ b) (compared_same q p _ (sym e) ∙ compared_greater m l _ b) (inr (e, b)))
        (⊎_elim
        (λ (k : l ≡ m). level (compared_same p q _ e ∙ compared_same l m _ k) e k)
        (λ (b : m < l). after (compared_same p q _ e ∙ compared_greater l m _ b) (compared_same q p _ (sym e) ∙ compared_less m l _ b)))
        (three l m)

never : {A : Type 0} (o : Order) → o ≡ less → o ≡ greater → A
never o a b = absurd (let z : ◌≡◌ {A = ℕ} 0 1 = cc in omega arith)

less_same : {A : Type 0} (o : Order) → o ≡ less → o ≡ same → A
less_same o a b = absurd (let z : ◌≡◌ {A = ℕ} 0 1 = cc in omega arith)

greater_same : {A : Type 0} (o : Order) → o ≡ greater → o ≡ same → A
greater_same o a b = absurd (let z : ◌≡◌ {A = ℕ} 0 1 = cc in omega arith)

pub lex_less : (p l q m : ℕ) → lex p l q m ≡ less → (p < q) ⊎ ((p ≡ q) × (l < m))
lex_less p l q m h = from (stand p l q m)
  where
    from : Stand p l q m → (p < q) ⊎ ((p ≡ q) × (l < m))
    from (before a b c) = c
    from (level a b c) = less_same _ h a
    from (after a b) = never _ h a

-- not after it by the first pair, and before it by the second
pub lex_within : (p l q m : ℕ) → p ≤ q → l < m → lex p l q m ≡ less
lex_within p l q m at deeper = from (three p q)
  where
    from : (p < q) ⊎ ((p ≡ q) ⊎ (q < p)) → lex p l q m ≡ less
    from (inl below) = compared_less p q _ below
    from (inr (inl equal)) = compared_same p q _ equal ∙ compared_less l m _ deeper
    from (inr (inr above)) = absurd (omega arith)

lex_same : (p l q m : ℕ) → lex p l q m ≡ same → (p ≡ q) × (l ≡ m)
lex_same p l q m h = from (stand p l q m)
  where
    from : Stand p l q m → (p ≡ q) × (l ≡ m)
    from (before a b c) = less_same _ a h
    from (level a b c) = (b, c)
    from (after a b) = greater_same _ a h

lex_turned : (p l q m : ℕ) → lex p l q m ≡ less ↔ lex q m p l ≡ greater
lex_turned p l q m = (λ h. to h (stand p l q m), λ h. back h (stand q m p l))
  where
    to : lex p l q m ≡ less → Stand p l q m → lex q m p l ≡ greater
    to h (before a b c) = b
    to h (level a b c) = less_same _ h a
    to h (after a b) = never _ h a

    back : lex q m p l ≡ greater → Stand q m p l → lex p l q m ≡ less
    back h (before a b c) = never _ a h
    back h (level a b c) = greater_same _ h a
    back h (after a b) = b

lex_carried : (p l q m r k : ℕ) → lex p l q m ≡ less → lex q m r k ≡ less → lex p l r k ≡ less
lex_carried p l q m r k h g = join (lex_less p l q m h) (lex_less q m r k g)
  where
    join : (p < q) ⊎ ((p ≡ q) × (l < m)) → (q < r) ⊎ ((q ≡ r) × (m < k)) → lex p l r k ≡ less
    join (inl a) (inl b) = compared_less p r _ (omega arith)
    join (inl a) (inr b) = compared_less p r _ (omega arith)
    join (inr a) (inl b) = compared_less p r _ (omega arith)
    join (inr a) (inr b) = compared_same p r _ (omega arith) ∙ compared_less l k _ (omega arith)

-- ---- of elements
-- where an element stands: its first descendant, then its level
abbrev pub place : {E : Type 0} → Shape E → E → ℕ
place S e = position S (first S e S.highest)

module _ {E : Type 0} (S : Shape E) (W : Lawful S) where
  -- by its position, of an element of level l
  pub place_of : (e : E) (l : ℕ) → Sound S e → S.level e ≡ l → place S e ≡ position S e * S.children ^ (S.highest - l)
  place_of e l sound at =
      of_first S W e S.highest sound (W.shallow e sound) (omega arith)
      ∙ ap (λ (m : ℕ). position S e * S.children ^ (S.highest - m)) at

  -- equal positions of the first descendants and equal levels: one element
  same_place : (e f : E) → Sound S e → Sound S f → place S e ≡ place S f → S.level e ≡ S.level f → e ≡ f
  same_place e f se sf p l =
      let k = S.highest - S.level f in
      place_injective S W e f se sf l
      (eq_of_mul-eq-mul_right (S.children ^ k) (power_pos S.children k (omega (arith, W.several))) (position S e) (position S f)
      (sym (place_of e (S.level f) se l) ∙ p ∙ place_of f (S.level f) sf refl))

  pub total_order : TotalOrder S
  unfolding order
  total_order =
      record {
        itself = λ e. compared_same (place S e) (place S e) (compared (S.level e) (S.level e) same) refl ∙ compared_same (S.level e) (S.level e) same refl;
        identical = λ e f se sf h. let d = lex_same (place S e) (S.level e) (place S f) (S.level f) h in same_place e f se sf d.0 d.1;
        turned = λ e f. lex_turned (place S e) (S.level e) (place S f) (S.level f);
        carried = λ e f g. lex_carried (place S e) (S.level e) (place S f) (S.level f) (place S g) (S.level g);
      }
