-- Document 01, "Grid file": "Numbers are groups of seven bits, lowest group first, top bit set on all but the last byte, shortest form, three
-- bytes at most." Definitions only.
--
--   highest         2^21 - 1, the largest number of three bytes
--   bytes_of v      the bytes of the number v
--   Found           a number that was found: its value, and the offset of what follows it
--   number_at bs i  the number whose first byte is at offset i of the bytes bs. 19 "file ends inside or before a number"; 20 "number not
--                   shortest, or third byte with top bit"; the place is the "offset of the number's first byte"
--
-- Assumes nothing.
use Rattle.std.specs.Prelude.{cond, List, [], ◌∷◌, ℕ, ◌+◌, ◌-◌, ◌*◌, ◌/◌, ◌%◌, leb, ltb, eqb, length, get_or}
use Rattle.paper.specs.Outcome.{Outcome, accepted, refuse_when_at}

abbrev pub highest : ℕ
highest = 2097151

abbrev pub bytes_of : ℕ → List ℕ
bytes_of v =
    cond (ltb v 128) (v ∷ [])
    (cond (ltb v 16384) ((v % 128 + 128) ∷ (v / 128) ∷ [])
    ((v % 128 + 128) ∷ (v / 128 % 128 + 128) ∷ (v / 16384) ∷ []))

pub record Found : Type 0 where
  pub value : ℕ
  pub next : ℕ

abbrev pub found : ℕ → ℕ → Found
found v j = record { value = v; next = j }

abbrev pub byte_at : List ℕ → ℕ → ℕ
byte_at bs i = get_or bs i 0

abbrev pub number_at : List ℕ → ℕ → Outcome Found
number_at bs i =
    refuse_when_at (leb (length bs) i) 19 i
    (cond (ltb (byte_at bs i) 128) (accepted (found (byte_at bs i) (i + 1)))
    (refuse_when_at (leb (length bs) (i + 1)) 19 i
    (refuse_when_at (eqb (byte_at bs (i + 1)) 0) 20 i
    (cond (ltb (byte_at bs (i + 1)) 128) (accepted (found (byte_at bs i - 128 + 128 * byte_at bs (i + 1)) (i + 2)))
    (refuse_when_at (leb (length bs) (i + 2)) 19 i
    (refuse_when_at (eqb (byte_at bs (i + 2)) 0) 20 i
    (refuse_when_at (leb 128 (byte_at bs (i + 2))) 20 i
    (accepted (found (byte_at bs i - 128 + 128 * (byte_at bs (i + 1) - 128) + 16384 * byte_at bs (i + 2)) (i + 3))))))))))
