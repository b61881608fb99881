-- Document 01, "Order program": "It reads one line from standard input: seven decimal fields with single semicolons and one LF." Definitions only.
--
--   fields s       the line cut at its semicolons; it ends at the first LF, or where the input ends
--   ended s        whether the line has its LF, and no byte follows
--   is_number f    "A field is 1 to 9 digits without a leading zero, except 0 itself"
--   value f        the number that the digits say
--
-- Assumes nothing.
use Rattle.std.specs.Prelude.{Bool, true, false, cond, not, ◌&&◌, List, [], ◌∷◌, ℕ, ◌+◌, ◌-◌, ◌*◌, eqb, leb, length, get_or}

abbrev pub lf : ℕ
lf = 10

abbrev pub semicolon : ℕ
semicolon = 59

-- a byte in front of the first field
abbrev pub grown : ℕ → List (List ℕ) → List (List ℕ)
grown b [] = (b ∷ []) ∷ []
grown b (f ∷ fs) = (b ∷ f) ∷ fs

unfoldable pub fields : List ℕ → List (List ℕ)
fields [] = [] ∷ []
fields (b ∷ s) = cond (eqb b lf) ([] ∷ []) (cond (eqb b semicolon) ([] ∷ fields s) (grown b (fields s)))

unfoldable pub ended : List ℕ → Bool
ended [] = false
ended (b ∷ s) = cond (eqb b lf) (eqb (length s) 0) (ended s)

abbrev pub is_digit : ℕ → Bool
is_digit b = leb 48 b && leb b 57

unfoldable pub all_digits : List ℕ → Bool
all_digits [] = true
all_digits (b ∷ f) = is_digit b && all_digits f

-- a zero in front of other digits
abbrev pub leading_zero : List ℕ → Bool
leading_zero f = eqb (get_or f 0 0) 48 && not (eqb (length f) 1)

abbrev pub is_number : List ℕ → Bool
is_number f = leb 1 (length f) && (leb (length f) 9 && (not (leading_zero f) && all_digits f))

-- the digits read on, after others that said n
unfoldable pub value_from : ℕ → List ℕ → ℕ
value_from n [] = n
value_from n (b ∷ f) = value_from (n * 10 + (b - 48)) f

abbrev pub value : List ℕ → ℕ
value f = value_from 0 f
