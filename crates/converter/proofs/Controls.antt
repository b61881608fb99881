-- Closed cases of document 02, ticket 2, computed by the checker: what the converter prints, byte for byte. Assumes nothing.
use mathlib.Core.Path.{◌≡◌, refl}
use mathlib.Core.List.{List, [], ◌∷◌}
use Prim.Native.Nat.{ℕ}
use lib.ListN.{length}
use Rattle.fields.specs.Fields.{fields, ended, all_digits, value_from}
use Rattle.text.specs.Text.{decimal_in}
use Rattle.converter.specs.Converter.{line, converted, longest_line}

-- `1042;7;3;1;4;3;`: the 2 is put in
standing_order : converted (49 ∷ 48 ∷ 52 ∷ 50 ∷ 59 ∷ 55 ∷ 59 ∷ 51 ∷ 59 ∷ 49 ∷ 59 ∷ 52 ∷ 59 ∷ 51 ∷ 59 ∷ 10 ∷ []) ≡ 49 ∷ 48 ∷ 52 ∷ 50 ∷ 59 ∷ 55 ∷ 59 ∷ 51 ∷ 59 ∷ 49 ∷ 59 ∷ 52 ∷ 59 ∷ 51 ∷ 59 ∷ 50 ∷ 10 ∷ []
unfolding fields ended all_digits value_from decimal_in line
standing_order = refl

-- `1042;7;3;1;4;3;1`: untouched
filled_order : converted (49 ∷ 48 ∷ 52 ∷ 50 ∷ 59 ∷ 55 ∷ 59 ∷ 51 ∷ 59 ∷ 49 ∷ 59 ∷ 52 ∷ 59 ∷ 51 ∷ 59 ∷ 49 ∷ 10 ∷ []) ≡ 49 ∷ 48 ∷ 52 ∷ 50 ∷ 59 ∷ 55 ∷ 59 ∷ 51 ∷ 59 ∷ 49 ∷ 59 ∷ 52 ∷ 59 ∷ 51 ∷ 59 ∷ 49 ∷ 10 ∷ []
unfolding fields ended all_digits value_from decimal_in line
filled_order = refl

-- `1042;7;3;1;1;3;`: 2 is above field five
two_above_the_highest : converted (49 ∷ 48 ∷ 52 ∷ 50 ∷ 59 ∷ 55 ∷ 59 ∷ 51 ∷ 59 ∷ 49 ∷ 59 ∷ 49 ∷ 59 ∷ 51 ∷ 59 ∷ 10 ∷ []) ≡ 114 ∷ 101 ∷ 102 ∷ 117 ∷ 115 ∷ 101 ∷ 100 ∷ 32 ∷ 50 ∷ 51 ∷ 32 ∷ 102 ∷ 105 ∷ 101 ∷ 108 ∷ 100 ∷ 32 ∷ 55 ∷ 10 ∷ []
unfolding fields ended all_digits value_from decimal_in line
two_above_the_highest = refl

-- `1042;7;3;1;4;3`: no field seven
seventh_missing : converted (49 ∷ 48 ∷ 52 ∷ 50 ∷ 59 ∷ 55 ∷ 59 ∷ 51 ∷ 59 ∷ 49 ∷ 59 ∷ 52 ∷ 59 ∷ 51 ∷ 10 ∷ []) ≡ 114 ∷ 101 ∷ 102 ∷ 117 ∷ 115 ∷ 101 ∷ 100 ∷ 32 ∷ 50 ∷ 51 ∷ 32 ∷ 102 ∷ 105 ∷ 101 ∷ 108 ∷ 100 ∷ 32 ∷ 55 ∷ 10 ∷ []
unfolding fields ended all_digits value_from decimal_in line
seventh_missing = refl

-- `1042;7;3;1;4;3;`, without LF: by the old rule field seven was right
no_line_end : converted (49 ∷ 48 ∷ 52 ∷ 50 ∷ 59 ∷ 55 ∷ 59 ∷ 51 ∷ 59 ∷ 49 ∷ 59 ∷ 52 ∷ 59 ∷ 51 ∷ 59 ∷ []) ≡ 114 ∷ 101 ∷ 102 ∷ 117 ∷ 115 ∷ 101 ∷ 100 ∷ 32 ∷ 50 ∷ 51 ∷ 32 ∷ 102 ∷ 105 ∷ 101 ∷ 108 ∷ 100 ∷ 32 ∷ 56 ∷ 10 ∷ []
unfolding fields ended all_digits value_from decimal_in line
no_line_end = refl

-- `1042;7;3;1;4;3;;`: an empty field seven and an eighth
eight_fields : converted (49 ∷ 48 ∷ 52 ∷ 50 ∷ 59 ∷ 55 ∷ 59 ∷ 51 ∷ 59 ∷ 49 ∷ 59 ∷ 52 ∷ 59 ∷ 51 ∷ 59 ∷ 59 ∷ 10 ∷ []) ≡ 114 ∷ 101 ∷ 102 ∷ 117 ∷ 115 ∷ 101 ∷ 100 ∷ 32 ∷ 50 ∷ 51 ∷ 32 ∷ 102 ∷ 105 ∷ 101 ∷ 108 ∷ 100 ∷ 32 ∷ 56 ∷ 10 ∷ []
unfolding fields ended all_digits value_from decimal_in line
eight_fields = refl

-- `1042;7;3;0;4;3;`: field four comes first
an_earlier_field : converted (49 ∷ 48 ∷ 52 ∷ 50 ∷ 59 ∷ 55 ∷ 59 ∷ 51 ∷ 59 ∷ 48 ∷ 59 ∷ 52 ∷ 59 ∷ 51 ∷ 59 ∷ 10 ∷ []) ≡ 114 ∷ 101 ∷ 102 ∷ 117 ∷ 115 ∷ 101 ∷ 100 ∷ 32 ∷ 49 ∷ 55 ∷ 32 ∷ 102 ∷ 105 ∷ 101 ∷ 108 ∷ 100 ∷ 32 ∷ 52 ∷ 10 ∷ []
unfolding fields ended all_digits value_from decimal_in line
an_earlier_field = refl

-- `999999999;999999999;999999999;4096;21;4096;`: the longest line, with its 2 45 bytes
longest : List ℕ
longest = 57 ∷ 57 ∷ 57 ∷ 57 ∷ 57 ∷ 57 ∷ 57 ∷ 57 ∷ 57 ∷ 59 ∷ 57 ∷ 57 ∷ 57 ∷ 57 ∷ 57 ∷ 57 ∷ 57 ∷ 57 ∷ 57 ∷ 59 ∷ 57 ∷ 57 ∷ 57 ∷ 57 ∷ 57 ∷ 57 ∷ 57 ∷ 57 ∷ 57 ∷ 59 ∷ 52 ∷ 48 ∷ 57 ∷ 54 ∷ 59 ∷ 50 ∷ 49 ∷ 59 ∷ 52 ∷ 48 ∷ 57 ∷ 54 ∷ 59 ∷ 10 ∷ []

longest_reached : length (converted longest) ≡ longest_line
unfolding longest fields ended all_digits value_from decimal_in line
longest_reached = refl
