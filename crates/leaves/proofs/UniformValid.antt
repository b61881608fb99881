-- A uniform list is valid: leaf i + 1 starts where leaf i ends, as i + 1 has one position more in its root or is the first of the next. So what
-- an accepted start gives is a list again. Assumes nothing.
use mathlib.Core.Path.{◌≡◌, refl, ap, ap₂, ◌∙◌, sym, subst}
use mathlib.Core.Bool.{not}
use mathlib.Core.List.{List}
use Prim.Native.Nat.{ℕ, zero, suc, ◌+◌, ◌-◌, ◌*◌, ◌/◌, ◌%◌, ◌^◌, ◌≤◌, ◌<◌}
use native.Mathlib.Nat.{zero-mul, mod-lt, div-add-mod', div-lt_iff_lt-mul, mul-lt-mul_of_pos_right}
use native.Mathlib.Decide.{dec_lt}
use native.Mathlib.Omega.{arith}
use lib.Dec.{ltb}
use lib.ListN.{length}
use borrow.Author.Tests.{ltb-false}
use Rattle.paper.specs.Outcome.{accepted, rows}
use Rattle.paper.proofs.Scan.{rows_length, accepted_of}
use Rattle.leaves.specs.Leaves.{Leaf, leaf, Columns, columns_of, equal_columns, room, Spot, spot_at, span, past, end_of, Covers, Valid, uniform_list}
use Rattle.leaves.specs.Calls.{limit, out_of_range, uniform}
use Rattle.leaves.specs.Laws.{ValidList}
use Rattle.leaves.proofs.Span.{more_mul, quotient, rest, power_pos, fill, end_last, end_within}
use Rattle.leaves.proofs.Entries.{some_leaf}
use Rattle.leaves.proofs.Columns.{columns_valid}
use Rattle.leaves.proofs.Listed.{in_range_lem, room_gives}

pub uniform_length : (n L K l : ℕ) → length (uniform_list n L K l) ≡ K * n ^ l
uniform_length n L K l = rows_length _ 0 (K * n ^ l)

module _ (n L l : ℕ) (positive : 0 < n) (shallow : l ≤ L) where
  abbrev entry : ℕ → Leaf
  entry i = leaf (i / n ^ l) l (i % n ^ l)

  -- where leaf i starts, also for the i after the last
  abbrev spot : ℕ → Spot
  spot i = spot_at (i / n ^ l) (i % n ^ l * span n L l)

  spot_of : (i q r : ℕ) → i ≡ q * n ^ l + r → r < n ^ l → spot i ≡ spot_at q (r * span n L l)
  spot_of i q r e small =
      ap₂ (λ (a b : ℕ). spot_at a (b * span n L l)) (quotient (n ^ l) q r i e small) (rest (n ^ l) q r i e small)

  spot_first : (i q : ℕ) → i ≡ q * n ^ l → spot i ≡ spot_at q 0
  spot_first i q e =
      spot_of i q 0 (omega arith) (power_pos n l positive) ∙ ap (spot_at q) (zero-mul (span n L l))

  -- leaf i ends where leaf i + 1 starts
  next_last : (i : ℕ) → i % n ^ l + 1 ≡ n ^ l → end_of n L (entry i) ≡ spot (suc i)
  next_last i last =
      let full : past n L (entry i) ≡ n ^ L = ap (λ (k : ℕ). k * span n L l) last ∙ fill n L l shallow in
      let after : suc i ≡ (i / n ^ l + 1) * n ^ l = omega (arith, more_mul (i / n ^ l) (n ^ l), div-add-mod' i (n ^ l)) in
      end_last n L (entry i) full ∙ sym (spot_first (suc i) (i / n ^ l + 1) after)

  next_within : (i : ℕ) → i % n ^ l + 1 < n ^ l → end_of n L (entry i) ≡ spot (suc i)
  next_within i within =
      let less : past n L (entry i) < n ^ l * span n L l = mul-lt-mul_of_pos_right within (power_pos n (L - l) positive) in
      let after : suc i ≡ i / n ^ l * n ^ l + (i % n ^ l + 1) = omega (arith, div-add-mod' i (n ^ l)) in
      end_within n L (entry i) (λ e. omega (arith, fill n L l shallow)) ∙ sym (spot_of (suc i) (i / n ^ l) (i % n ^ l + 1) after within)

  next : (i : ℕ) → end_of n L (entry i) ≡ spot (suc i)
  next i = by (dec_lt (i % n ^ l + 1) (n ^ l))
    where
      by : Dec (i % n ^ l + 1 < n ^ l) → end_of n L (entry i) ≡ spot (suc i)
      by (yes within) = next_within i within
      by (no last) = next_last i (let below = mod-lt i (power_pos n l positive) in omega arith)

  covers_from : (K i k : ℕ) → i + k ≡ K * n ^ l → Covers n L (spot i) (rows entry i k) K
  unfolding Covers
  covers_from K i zero e = spot_first i K (omega arith)
  covers_from K i (suc k) e =
      let whole = power_pos n l positive in
      let inside : i / n ^ l < K = (div-lt_iff_lt-mul whole).1 (omega arith) in
      (shallow, mod-lt i whole, refl, inside, rw (next i) (covers_from K (suc i) k (omega arith)))

  pub uniform_valid : (K : ℕ) → Valid n L K (uniform_list n L K l)
  uniform_valid K = rw (spot_first 0 0 (sym (zero-mul (n ^ l)))) at (covers_from K 0 (K * n ^ l) (omega arith))

-- ---- an accepted start
pub uniform_listed : (n L : ℕ) → 0 < n → (K l : ℕ) (m : Columns) (ws : List Leaf) → uniform n L K l m ≡ accepted ws → ValidList n L K (columns_of ws)
uniform_listed n L positive K l m ws h =
    let us = uniform_list n L K l in
    let number = accepted_of (out_of_range K) 17 0 _ ws h in
    let equal = accepted_of (not (equal_columns m)) 11 0 _ ws number.1 in
    let level = accepted_of (ltb L l) 1 0 _ ws equal.1 in
    let size = accepted_of (ltb limit (K * n ^ l)) 15 0 _ ws level.1 in
    let range = in_range_lem K number.0 in
    let valid = uniform_valid n L l positive (ltb-false L l level.0) K in
    let few : length us ≤ limit = omega (arith, uniform_length n L K l, ltb-false limit (K * n ^ l) size.0) in
    subst (λ (vs : List Leaf). ValidList n L K (columns_of vs)) (room_gives (K * n ^ l) (room m) us ws size.1)
    (columns_valid n L K us range.0 range.1 (some_leaf n L K us range.0 valid) few valid)
