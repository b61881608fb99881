-- A run counted in leaves of its own level: n^l of them fill a root, so u of them from the start of root r on end u / n^l roots further, after
-- u % n^l leaves. Assumes nothing.
use mathlib.Core.Path.{◌≡◌, refl, ap, ap₂, ◌∙◌, sym}
use mathlib.Core.Bool.{Bool, true, false, true≢false, ◌&&◌}
use mathlib.Core.List.{List, ◌∷◌}
use Prim.Native.Nat.{ℕ, zero, suc, ◌+◌, ◌-◌, ◌*◌, ◌/◌, ◌%◌, ◌^◌, ◌≤◌, ◌<◌}
use native.Mathlib.Nat.{div-add-mod', mod-lt, mul-div_cancel, mul-mod_left, mul-le-mul_right, zero-mul, add-zero, add-suc, suc-add}
use native.Mathlib.Numerals.{add-one}
use native.Mathlib.Decide.{ℕ_discrete, dec_lt}
use native.Mathlib.Omega.{arith}
use lib.Dec.{ltb, eqb}
use lib.Ieee.Nearest.{div_mono}
use borrow.Author.Tests.{lt-ltb, le-ltb, eq-eqb, ne_eqb}
use Rattle.paper.specs.Outcome.{rows}
use Rattle.leaves.specs.Leaves.{Leaf, leaf, Spot, spot_at, span, past, end_of}
use Rattle.leaves.proofs.Span.{power_pos, fill, more_mul, quotient, rest, end_last, end_within}
use Rattle.format.specs.Reading.{upto, leaf_from, fits, leaves_from, end_from}

-- a larger number has no smaller quotient
pub quotient_order : (m a b : ℕ) → 0 < m → a ≤ b → a / m ≤ b / m
quotient_order m a b some less = div_mono a m b m some some (mul-le-mul_right m less)

-- ---- not past the last root
pub upto_within : (K : ℕ) (c : Spot) → c.root < K → upto K c ≡ true
upto_within K c inside = simp (lt-ltb c.root K inside)

pub upto_full : (K : ℕ) (c : Spot) → c.root ≡ K → c.cell ≡ 0 → upto K c ≡ true
upto_full K c full none = simp (le-ltb c.root K (omega arith), eq-eqb c.root K full, eq-eqb c.cell 0 none)

pub upto_past : (K : ℕ) (c : Spot) → K < c.root → upto K c ≡ false
upto_past K c past = simp (le-ltb c.root K (omega arith), ne_eqb c.root K (λ same. omega arith))

pub upto_over : (K : ℕ) (c : Spot) → c.root ≡ K → (c.cell ≡ 0 → ⊥) → upto K c ≡ false
upto_over K c full some = simp (le-ltb c.root K (omega arith), eq-eqb c.root K full, ne_eqb c.cell 0 some)

pub upto_root : (K : ℕ) (c : Spot) → upto K c ≡ true → c.root ≤ K
upto_root K c within = by (dec_lt K c.root)
  where
    by : Dec (K < c.root) → c.root ≤ K
    by (yes past) = absurd (true≢false (sym within ∙ upto_past K c past))
    by (no upto) = omega arith

module _ (n L l : ℕ) (positive : 0 < n) (shallow : l ≤ L) where
  abbrev each : ℕ
  each = n ^ l

  -- u leaves of the level after the start of root r
  abbrev pub moved : ℕ → ℕ → Spot
  moved r u = spot_at (r + u / each) (u % each * span n L l)

  some_each : 0 < each
  some_each = power_pos n l positive

  some_span : 0 < span n L l
  some_span = power_pos n (L - l) positive

  next_moved : (r u : ℕ) → leaf_from n L (moved r u) l ≡ leaf (r + u / each) l (u % each)
  next_moved r u = ap (leaf (r + u / each) l) (mul-div_cancel (u % each) some_span)

  -- one leaf further
  module _ (u : ℕ) where
    parts : u ≡ u / each * each + u % each
    parts = sym (div-add-mod' u each)

    last_quotient : u % each + 1 ≡ each → (u + 1) / each ≡ u / each + 1
    last_quotient last = quotient each (u / each + 1) 0 (u + 1) (omega (arith, parts, more_mul (u / each) each)) some_each

    last_rest : u % each + 1 ≡ each → (u + 1) % each ≡ 0
    last_rest last = rest each (u / each + 1) 0 (u + 1) (omega (arith, parts, more_mul (u / each) each)) some_each

    still : (u % each + 1 ≡ each → ⊥) → u % each + 1 < each
    still within = omega (arith, mod-lt u some_each)

    within_quotient : (u % each + 1 ≡ each → ⊥) → (u + 1) / each ≡ u / each
    within_quotient within = quotient each (u / each) (u % each + 1) (u + 1) (omega (arith, parts)) (still within)

    within_rest : (u % each + 1 ≡ each → ⊥) → (u + 1) % each ≡ u % each + 1
    within_rest within = rest each (u / each) (u % each + 1) (u + 1) (omega (arith, parts)) (still within)

  end_moved : (r u : ℕ) → end_of n L (leaf_from n L (moved r u) l) ≡ moved r (u + 1)
  end_moved r u = ap (end_of n L) (next_moved r u) ∙ by (ℕ_discrete (u % each + 1) each)
    where
      v : Leaf
      v = leaf (r + u / each) l (u % each)

      by : Dec (u % each + 1 ≡ each) → end_of n L v ≡ moved r (u + 1)
      by (yes last) =
          let whole : r + u / each + 1 ≡ r + (u + 1) / each = omega (arith, last_quotient u last) in
          end_last n L v (ap (λ (q : ℕ). q * span n L l) last ∙ fill n L l shallow)
          ∙ ap₂ spot_at whole (sym (zero-mul (span n L l)) ∙ ap (λ (q : ℕ). q * span n L l) (sym (last_rest u last)))
      by (no within) =
          let less : u % each + 1 + 1 ≤ each = omega (arith, still u within) in
          let room = mul-le-mul_right (span n L l) less in
          let same : r + u / each ≡ r + (u + 1) / each = omega (arith, within_quotient u within) in
          end_within n L v (λ full. omega (arith, full, room, more_mul (u % each + 1) (span n L l), fill n L l shallow, some_span))
          ∙ ap₂ spot_at same (ap (λ (q : ℕ). q * span n L l) (sym (within_rest u within)))

  pub after_moved : (r u k : ℕ) → end_from n L (moved r u) l k ≡ moved r (u + k)
  unfolding end_from
  after_moved r u zero = ap (moved r) (sym (add-zero u))
  after_moved r u (suc k) =
      ap (λ (c : Spot). end_from n L c l k) (end_moved r u)
      ∙ after_moved r (u + 1) k
      ∙ ap (moved r) (ap (λ (m : ℕ). m + k) (add-one u) ∙ suc-add u k ∙ sym (add-suc u k))

  pub leaves_moved : (r u k : ℕ) → leaves_from n L (moved r u) l k ≡ rows (λ t. leaf (r + t / each) l (t % each)) u k
  unfolding leaves_from
  leaves_moved r u zero = refl
  leaves_moved r u (suc k) =
      ap₂ (λ (v : Leaf) (vs : List Leaf). v ∷ vs) (next_moved r u)
      (ap (λ (c : Spot). leaves_from n L c l k) (end_moved r u)
      ∙ leaves_moved r (u + 1) k
      ∙ ap (λ (m : ℕ). rows (λ t. leaf (r + t / each) l (t % each)) m k) (add-one u))

  -- ---- what fits
  no_rest : (r u : ℕ) → (moved r u).cell % span n L l ≡ 0
  no_rest r u = mul-mod_left (u % each) (span n L l)

  -- a leaf within the roots ends within them
  module _ (K r u : ℕ) where
    ends_upto : r + u / each < K → upto K (moved r (u + 1)) ≡ true
    ends_upto inside = by (ℕ_discrete (u % each + 1) each)
      where
        full : u % each + 1 ≡ each → (r + (u + 1) / each ≡ K) → upto K (moved r (u + 1)) ≡ true
        full last same = upto_full K (moved r (u + 1)) same (ap (λ (q : ℕ). q * span n L l) (last_rest u last) ∙ zero-mul (span n L l))

        by_last : u % each + 1 ≡ each → Dec (r + (u + 1) / each ≡ K) → upto K (moved r (u + 1)) ≡ true
        by_last last (yes same) = full last same
        by_last last (no other) = upto_within K (moved r (u + 1)) (omega (arith, last_quotient u last))

        by : Dec (u % each + 1 ≡ each) → upto K (moved r (u + 1)) ≡ true
        by (yes last) = by_last last (ℕ_discrete (r + (u + 1) / each) K)
        by (no within) = upto_within K (moved r (u + 1)) (omega (arith, within_quotient u within))

    -- leaves that begin past the roots end past them
    begins_past : K ≤ r + u / each → (x : ℕ) → u < x → upto K (moved r x) ≡ false
    begins_past past x later = by (dec_lt (u / each) (x / each))
      where
        by : Dec (u / each < x / each) → upto K (moved r x) ≡ false
        by (yes further) = upto_past K (moved r x) (omega arith)
        by (no same) = by_root (dec_lt K (r + x / each))
          where
            order : u / each ≤ x / each
            order = quotient_order each u x some_each (omega arith)

            some : x % each * span n L l ≡ 0 → ⊥
            some none =
                let equal : x / each ≡ u / each = omega (arith, order) in
                let above : 1 ≤ x % each = omega (arith, parts u, parts x, ap (λ (q : ℕ). q * each) equal) in
                omega (arith, none, mul-le-mul_right (span n L l) above, some_span)

            by_root : Dec (K < r + x / each) → upto K (moved r x) ≡ false
            by_root (yes over) = upto_past K (moved r x) over
            by_root (no within) = upto_over K (moved r x) (omega (arith, order)) some

  pub fits_moved : (K r u k : ℕ) → fits n L K (moved r u) l (suc k) ≡ upto K (moved r (u + suc k))
  unfolding fits
  fits_moved K r u zero = by (dec_lt (r + u / each) K)
    where
      by : Dec (r + u / each < K) → fits n L K (moved r u) l 1 ≡ upto K (moved r (u + 1))
      by (yes inside) = simp (lt-ltb (r + u / each) K inside, eq-eqb (u % each * span n L l % span n L l) 0 (no_rest r u)) (sym (ends_upto K r u inside))
      by (no past) = simp (le-ltb (r + u / each) K (omega arith)) (sym (begins_past K r u (omega arith) (u + 1) (omega arith)))
  fits_moved K r u (suc k) =
      ap (λ (c : Spot). ltb (r + u / each) K && (eqb (u % each * span n L l % span n L l) 0 && fits n L K c l (suc k))) (end_moved r u)
      ∙ ap (λ (b : Bool). ltb (r + u / each) K && (eqb (u % each * span n L l % span n L l) 0 && b)) (fits_moved K r (u + 1) k ∙ ap (λ (m : ℕ). upto K (moved r m)) sum)
      ∙ by (dec_lt (r + u / each) K)
    where
      sum : u + 1 + suc k ≡ u + suc (suc k)
      sum = omega arith

      by : Dec (r + u / each < K) → (ltb (r + u / each) K && (eqb (u % each * span n L l % span n L l) 0 && upto K (moved r (u + suc (suc k))))) ≡ upto K (moved r (u + suc (suc k)))
      by (yes inside) = simp (lt-ltb (r + u / each) K inside, eq-eqb (u % each * span n L l % span n L l) 0 (no_rest r u))
      by (no past) = simp (le-ltb (r + u / each) K (omega arith)) (sym (begins_past K r u (omega arith) (u + suc (suc k)) (omega arith)))
