-- How long a run is that some levels begin with: blocks of its level, and then its levels one by one. Assumes nothing.
use mathlib.Core.Path.{◌≡◌, refl, ap, ◌∙◌, sym}
use mathlib.Core.Bool.{true, not, cond}
use mathlib.Core.List.{List, [], ◌∷◌, ◌++◌}
use Prim.Native.Nat.{ℕ, suc, ◌+◌, ◌-◌, ◌<◌}
use native.Mathlib.Nat.{zero-add}
use native.Mathlib.Decide.{dec_lt}
use native.Mathlib.Omega.{arith}
use lib.Dec.{ltb, eqb}
use lib.ListN.{length, get_or, take, drop, length-append}
use borrow.Author.Tests.{lt-ltb, le-ltb, eq-eqb}
use Rattle.std.proofs.Common.{append_assoc, take-append-drop, Option, Some, None}
use Rattle.std.proofs.lemmas.List.{get_or_append_left, get_or-append_right}
use Rattle.std.proofs.lemmas.List.Sums.{prefix_len-le-length}
use Rattle.std.specs.List.{position_or_len}
use Rattle.std.specs.Option.{unwrap_or}
use Rattle.writer.specs.Inner.{OneLevel, Begins, other}

both_levels : (l : ℕ) (xs ys : List ℕ) → OneLevel xs l → OneLevel ys l → OneLevel (xs ++ ys) l
both_levels l xs ys one two t below = by (dec_lt t (length xs))
  where
    by : Dec (t < length xs) → get_or (xs ++ ys) t 0 ≡ l
    by (yes first) = get_or_append_left xs ys 0 t first ∙ one t first
    by (no later) =
        get_or-append_right xs ys (length xs) t 0 refl (omega arith) ∙ two (t - length xs) (omega (arith, length-append xs ys))

pub begins_more : (l : ℕ) (ls rest : List ℕ) → Begins l ls rest → (n : ℕ) → OneLevel (take n rest) l → Begins l ls (drop n rest)
begins_more l ls rest b n level =
    record {
      front = b.front ++ take n rest;
      all = b.all ∙ ap (λ (xs : List ℕ). b.front ++ xs) (sym (take-append-drop n rest)) ∙ sym (append_assoc b.front (take n rest) (drop n rest));
      level = both_levels l b.front (take n rest) b.level level;
    }

pub found_or_all : (xs : List ℕ) (l : ℕ) (r : Option ℕ) → r ≡ cond (ltb (position_or_len (other l) xs) (length xs)) (Some (position_or_len (other l) xs)) None
    → unwrap_or r (length xs) ≡ position_or_len (other l) xs
found_or_all xs l r e = ap (λ (o : Option ℕ). unwrap_or o (length xs)) e ∙ by (dec_lt (position_or_len (other l) xs) (length xs))
  where
    by : Dec (position_or_len (other l) xs < length xs)
        → unwrap_or (cond (ltb (position_or_len (other l) xs) (length xs)) (Some (position_or_len (other l) xs)) None) (length xs) ≡ position_or_len (other l) xs
    by (yes found) = simp (lt-ltb (position_or_len (other l) xs) (length xs) found)
    by (no none) =
        let all : length xs ≡ position_or_len (other l) xs = omega (arith, prefix_len-le-length (λ x. not (other l x)) xs) in
        simp (le-ltb (position_or_len (other l) xs) (length xs) (omega arith)) all

-- behind levels that are all l, the first other one is that of the rest
pub behind : (l : ℕ) (xs rest : List ℕ) → OneLevel xs l → position_or_len (other l) (xs ++ rest) ≡ length xs + position_or_len (other l) rest
behind l [] rest level = sym (zero-add (position_or_len (other l) rest))
behind l (x ∷ xs) rest level =
    let first : eqb x l ≡ true = eq-eqb x l (level 0 (omega arith)) in
    let later = behind l xs rest (λ t below. level (suc t) (omega arith)) in
    simp first (omega (arith, later))

pub first_other : (l : ℕ) (ls rest : List ℕ) → Begins l ls rest → length ls - length rest + position_or_len (other l) rest ≡ position_or_len (other l) ls
first_other l ls rest b =
    let size : length ls ≡ length b.front + length rest = ap length b.all ∙ length-append b.front rest in
    let all = ap (λ (xs : List ℕ). position_or_len (other l) xs) b.all ∙ behind l b.front rest b.level in
    omega (arith, size, all)
