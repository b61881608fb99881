-- Document 01, "What is built" and "Elements": the scale, and one coordinate of an anchor. L is the highest level, 2^L the edge of the
-- root. Definitions only.
--
--   HIGHEST         "highest level 21 for all three"
--   EDGE            "one reference scale, edge 2^21 = 2,097,152"
--   side L l        "Level l has side h = 2^(21-l)"
--   off_grid L l x  "An anchor is a multiple of h below 2^21 in each coordinate": x is not
--   rounded L l x   the coordinate of the ancestor of level l: the multiple of its side at or below x
--   bit_at L l x    whether x is one side of level l above the ancestor of the level before: its binary place of that level
--   minus, stay, plus   a step across a face, counted in sides from -1 on: x-h, x, x+h
--   moved h s x     x moved by the step s, with sides of length h
--   off_edge L h s x   whether that leaves the root's edge
--
-- Assumes nothing.
use Rattle.std.specs.Prelude.{ℕ, ◌+◌, ◌-◌, ◌*◌, ◌/◌, ◌%◌, ◌^◌, Bool, not, ◌||◌, ◌==◌, nat_le, nat_lt}

abbrev pub HIGHEST : ℕ
HIGHEST = 21

abbrev pub EDGE : ℕ
EDGE = 2 ^ HIGHEST

abbrev pub side : ℕ → ℕ → ℕ
side L l = 2 ^ (L - l)

abbrev pub off_grid : ℕ → ℕ → ℕ → Bool
off_grid L l x = nat_le (2 ^ L) x || not (x % side L l == 0)

abbrev pub rounded : ℕ → ℕ → ℕ → ℕ
rounded L l x = x / side L l * side L l

abbrev pub bit_at : ℕ → ℕ → ℕ → ℕ
bit_at L l x = x / side L l % 2

abbrev pub minus : ℕ
minus = 0

abbrev pub stay : ℕ
stay = 1

abbrev pub plus : ℕ
plus = 2

abbrev pub moved : ℕ → ℕ → ℕ → ℕ
moved h s x = x + s * h - h

abbrev pub off_edge : ℕ → ℕ → ℕ → ℕ → Bool
off_edge L h s x = nat_lt (x + s * h) h || nat_le (2 ^ L) (moved h s x)
