-- Inner contracts: what functions ask and answer that only this house calls. A reader of the promises may skip this file. Definitions only.
--
--   piece s            the first field of the bytes s: up to the next semicolon or LF
--   next s e           where the field after the one that ended at e begins; past the end of s where there is none
--   closes s e         the field that ended at e is followed by LF, and the LF by nothing
--   Reached s at n i   after the digits from `at` up to i, which say n: the field that begins at `at` is as long as they and what is left of it
--                      at i, has another byte than digits where that has one, and says what that says after n
--   Ran s at r         the run r is the digits from `at` on, up to the first other byte, but no more than nine
--   zero_first b many  b, the first of `many` digits, is a zero, and not the only one
--   numbered_of        the outcome that the result of `number_at` stands for, its number and end as a pair
--   number_at s at     the number in the field that begins at `at`, and where the field ends; refused 23 where it is none. Past the end of s
--                      there is no byte, and so no number
--
-- Assumes nothing.
use Rattle.std.specs.Prelude.{◌≡◌, Bool, false, cond, not, ◌&&◌, List, [], ◌∷◌, ℕ, ◌+◌, ◌≤◌, ◌<◌, eqb, length, get_or, drop}
use Rattle.std.specs.declared.result.Result.{Result}
use Rattle.paper.specs.declared.Refusal.{Refusal}
use Rattle.paper.specs.Outcome.{Outcome, accepted, mapped, refuse_when}
use Rattle.paper.specs.Refusals.{outcome_of}
use Rattle.fields.specs.Fields.{lf, semicolon, is_digit, all_digits, is_number, value_from, value}
use Rattle.fields.specs.declared.digits.Number.{Number}
use Rattle.fields.specs.declared.digits.Run.{Run}

unfoldable pub piece : List ℕ → List ℕ
piece [] = []
piece (b ∷ s) = cond (eqb b lf) [] (cond (eqb b semicolon) [] (b ∷ piece s))

abbrev pub next : List ℕ → ℕ → ℕ
next s e = cond (eqb (get_or s e 0) semicolon) (e + 1) (length s + 1)

abbrev pub closes : List ℕ → ℕ → Bool
closes s e = eqb (e + 1) (length s) && eqb (get_or s e 0) lf

pub record Reached (s : List ℕ) (at n i : ℕ) : Type 0 where
  pub long : at + length (piece (drop at s)) ≡ i + length (piece (drop i s))
  pub digits : all_digits (piece (drop at s)) ≡ all_digits (piece (drop i s))
  pub says : value (piece (drop at s)) ≡ value_from n (piece (drop i s))

pub record Ran (s : List ℕ) (at : ℕ) (r : Run) : Type 0 where
  pub inside : at + r.count ≤ length s
  pub few : r.count ≤ 9
  pub reached : Reached s at r.number (at + r.count)
  pub stop : r.count < 9 → is_digit (get_or s (at + r.count) 0) ≡ false

abbrev pub zero_first : ℕ → ℕ → Bool
zero_first b many = eqb b 48 && not (eqb many 1)

abbrev pub numbered_of : Result Number Refusal → Outcome (ℕ × ℕ)
numbered_of r = mapped (λ (n : Number). (n.value, n.end)) (outcome_of r)

abbrev pub number_at : List ℕ → ℕ → Outcome (ℕ × ℕ)
number_at s at = refuse_when (not (is_number (piece (drop at s)))) 23 (accepted (value (piece (drop at s)), at + length (piece (drop at s))))
