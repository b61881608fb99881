-- Closed cases of document 01, "Order program", and of document 02, ticket 2, computed by the checker: the example's output byte for byte, and a
-- refusal of each kind. Assumes nothing.
use mathlib.Core.Path.{◌≡◌, refl}
use mathlib.Core.List.{List, [], ◌∷◌}
use Prim.Native.Nat.{ℕ}
use Rattle.paper.specs.Outcome.{refused}
use Rattle.shares.specs.Shares.{total, largest}
use Rattle.fields.specs.Fields.{fields, ended, all_digits, value_from}
use Rattle.forms.specs.Forms.{read}
use Rattle.text.specs.Text.{decimal_in, chained}
use Rattle.orders.specs.Calls.{output}

-- `1042;7;3;1;4;3;1`
example : List ℕ
example = 49 ∷ 48 ∷ 52 ∷ 50 ∷ 59 ∷ 55 ∷ 59 ∷ 51 ∷ 59 ∷ 49 ∷ 59 ∷ 52 ∷ 59 ∷ 51 ∷ 59 ∷ 49 ∷ 10 ∷ []

-- `order 1042 site 7 model 3 roots 1 level 1 leaves 8 shares 3`, `0 0 2`, `1 2 3`, `2 5 3`
example_printed : output example ≡ 111 ∷ 114 ∷ 100 ∷ 101 ∷ 114 ∷ 32 ∷ 49 ∷ 48 ∷ 52 ∷ 50 ∷ 32 ∷ 115 ∷ 105 ∷ 116 ∷ 101 ∷ 32 ∷ 55 ∷ 32 ∷ 109 ∷ 111 ∷ 100 ∷ 101 ∷ 108 ∷ 32 ∷ 51 ∷ 32 ∷ 114 ∷ 111 ∷ 111 ∷ 116 ∷ 115 ∷ 32 ∷ 49 ∷ 32 ∷ 108 ∷ 101 ∷ 118 ∷ 101 ∷ 108 ∷ 32 ∷ 49 ∷ 32 ∷ 108 ∷ 101 ∷ 97 ∷ 118 ∷ 101 ∷ 115 ∷ 32 ∷ 56 ∷ 32 ∷ 115 ∷ 104 ∷ 97 ∷ 114 ∷ 101 ∷ 115 ∷ 32 ∷ 51 ∷ 10 ∷ 48 ∷ 32 ∷ 48 ∷ 32 ∷ 50 ∷ 10 ∷ 49 ∷ 32 ∷ 50 ∷ 32 ∷ 51 ∷ 10 ∷ 50 ∷ 32 ∷ 53 ∷ 32 ∷ 51 ∷ 10 ∷ []
unfolding example fields ended all_digits value_from decimal_in chained total largest
example_printed = refl

-- `1;7;3;1;1;3;2`
above_the_highest : read (49 ∷ 59 ∷ 55 ∷ 59 ∷ 51 ∷ 59 ∷ 49 ∷ 59 ∷ 49 ∷ 59 ∷ 51 ∷ 59 ∷ 50 ∷ 10 ∷ []) ≡ refused 23 7
unfolding fields ended all_digits value_from
above_the_highest = refl

-- `1;7;3;1;4;3;`: no trial level
empty_seven : read (49 ∷ 59 ∷ 55 ∷ 59 ∷ 51 ∷ 59 ∷ 49 ∷ 59 ∷ 52 ∷ 59 ∷ 51 ∷ 59 ∷ 10 ∷ []) ≡ refused 23 7
unfolding fields ended all_digits value_from
empty_seven = refl

-- `1;7;3;1;4;3;;`, without LF: field seven before field 8
empty_before_eight : read (49 ∷ 59 ∷ 55 ∷ 59 ∷ 51 ∷ 59 ∷ 49 ∷ 59 ∷ 52 ∷ 59 ∷ 51 ∷ 59 ∷ 59 ∷ []) ≡ refused 23 7
unfolding fields ended all_digits value_from
empty_before_eight = refl

-- `1;7`
first_missing : read (49 ∷ 59 ∷ 55 ∷ 10 ∷ []) ≡ refused 23 3
unfolding fields ended all_digits value_from
first_missing = refl

-- `1;2;3;0;x`, without LF
roots_0 : read (49 ∷ 59 ∷ 50 ∷ 59 ∷ 51 ∷ 59 ∷ 48 ∷ 59 ∷ 120 ∷ []) ≡ refused 17 4
unfolding fields ended all_digits value_from
roots_0 = refl

-- `1;2;3;4;22;`, without LF
level_22 : read (49 ∷ 59 ∷ 50 ∷ 59 ∷ 51 ∷ 59 ∷ 52 ∷ 59 ∷ 50 ∷ 50 ∷ 59 ∷ []) ≡ refused 1 5
unfolding fields ended all_digits value_from
level_22 = refl

-- `1;2;3;1;7;1;7;`, without LF
too_many_leaves : read (49 ∷ 59 ∷ 50 ∷ 59 ∷ 51 ∷ 59 ∷ 49 ∷ 59 ∷ 55 ∷ 59 ∷ 49 ∷ 59 ∷ 55 ∷ 59 ∷ []) ≡ refused 15 7
unfolding fields ended all_digits value_from
too_many_leaves = refl

-- `1;7;3;1;4;3;1`, without LF
no_line_end : read (49 ∷ 59 ∷ 55 ∷ 59 ∷ 51 ∷ 59 ∷ 49 ∷ 59 ∷ 52 ∷ 59 ∷ 51 ∷ 59 ∷ 49 ∷ []) ≡ refused 23 8
unfolding fields ended all_digits value_from
no_line_end = refl

-- `01;7;3;1;4;3;1`
leading_zero_lem : read (48 ∷ 49 ∷ 59 ∷ 55 ∷ 59 ∷ 51 ∷ 59 ∷ 49 ∷ 59 ∷ 52 ∷ 59 ∷ 51 ∷ 59 ∷ 49 ∷ 10 ∷ []) ≡ refused 23 1
unfolding fields ended all_digits value_from
leading_zero_lem = refl

-- no input
no_input : read ([]) ≡ refused 23 1
unfolding fields ended all_digits value_from
no_input = refl
