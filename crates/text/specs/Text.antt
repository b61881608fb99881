-- Document 01, "Order program": what is printed, byte for byte. Definitions only.
--
--     order 1042 site 7 model 3 roots 1 level 1 leaves 8 shares 3
--     0 0 2
--     1 2 3
--     2 5 3
--
--   decimal n        the number n in decimal digits, without a leading zero except 0 itself: the digits of n / 10, and then the last one
--   counted n b      the number n, and the byte b after it: a blank, or LF at the end of a line
--   entry word n b   a word, and a number with the byte after it
--   first_line f     "The first line repeats fields 1, 2, 3 and 4, then level used, leaf count, field 6"
--   share_line       "Each further line: share, first leaf, number of leaves"; the share s holds the leaves from a up to b
--   share_lines      these lines, one a share; start s is the first leaf of share s
--   weights f        "all weights being 1": one for each leaf of the uniform start
--   refusal_line     "A refusal prints only `refused 23 field 7`, with its number and field"
--   printed o        all that is printed
--   printing t room  the bytes t, for a buffer of room bytes; 14 where it has not so many: "no room; place = .. bytes needed"
--   Prints t r m m'  the contract of a call that prints the bytes t: it answers how many they are, and they stand at the front of the lent buffer
--   longest_output   no output is longer: at most 28 bytes for each of the first line's seven entries, and 21 for each of 4,096 shares (a bound,
--                    not reached)
--
-- Assumes nothing.
use Rattle.std.specs.Prelude.{cond, List, [], ◌∷◌, ◌++◌, map, ℕ, zero, suc, ◌+◌, ◌-◌, ◌/◌, ◌%◌, ltb, length}
use Rattle.paper.specs.Outcome.{Outcome, accepted, refused, mapped, rows}
use Rattle.paper.specs.Memory.{written, room_for, Fulfils}
use Rattle.std.specs.declared.result.Result.{Result}
use Rattle.paper.specs.declared.Refusal.{Refusal}
use Rattle.paper.specs.Refusals.{outcome_of}
use Rattle.tree.specs.Anchors.{HIGHEST}
use Rattle.leaves.specs.Leaves.{CHILDREN, Leaf, uniform_list}
use Rattle.shares.specs.Shares.{boundary}
use Rattle.forms.specs.declared.Form.{Form}
use Rattle.fields.specs.Fields.{lf}

abbrev pub blank : ℕ
blank = 32

-- the last k digits at most; 20 are enough for every number of 64 bits
unfoldable pub decimal_in : ℕ → ℕ → List ℕ
decimal_in zero n = []
decimal_in (suc k) n = cond (ltb n 10) ((48 + n) ∷ []) (decimal_in k (n / 10) ++ ((48 + n % 10) ∷ []))

-- no number of the program has more than 20 digits
abbrev pub decimal : ℕ → List ℕ
decimal n = decimal_in 20 n

abbrev pub counted : ℕ → ℕ → List ℕ
counted n b = decimal n ++ (b ∷ [])

abbrev pub entry : List ℕ → ℕ → ℕ → List ℕ
entry word n b = word ++ counted n b

-- the words, each with its blank
abbrev pub word_order : List ℕ
word_order = 111 ∷ 114 ∷ 100 ∷ 101 ∷ 114 ∷ 32 ∷ []

abbrev pub word_site : List ℕ
word_site = 115 ∷ 105 ∷ 116 ∷ 101 ∷ 32 ∷ []

abbrev pub word_model : List ℕ
word_model = 109 ∷ 111 ∷ 100 ∷ 101 ∷ 108 ∷ 32 ∷ []

abbrev pub word_roots : List ℕ
word_roots = 114 ∷ 111 ∷ 111 ∷ 116 ∷ 115 ∷ 32 ∷ []

abbrev pub word_level : List ℕ
word_level = 108 ∷ 101 ∷ 118 ∷ 101 ∷ 108 ∷ 32 ∷ []

abbrev pub word_leaves : List ℕ
word_leaves = 108 ∷ 101 ∷ 97 ∷ 118 ∷ 101 ∷ 115 ∷ 32 ∷ []

abbrev pub word_shares : List ℕ
word_shares = 115 ∷ 104 ∷ 97 ∷ 114 ∷ 101 ∷ 115 ∷ 32 ∷ []

abbrev pub word_refused : List ℕ
word_refused = 114 ∷ 101 ∷ 102 ∷ 117 ∷ 115 ∷ 101 ∷ 100 ∷ 32 ∷ []

abbrev pub word_field : List ℕ
word_field = 102 ∷ 105 ∷ 101 ∷ 108 ∷ 100 ∷ 32 ∷ []

abbrev pub first_line : Form → List ℕ
first_line f =
    entry word_order f.order blank
    ++ (entry word_site f.site blank
    ++ (entry word_model f.model blank
    ++ (entry word_roots f.roots blank
    ++ (entry word_level f.level blank
    ++ (entry word_leaves f.leaves blank
    ++ entry word_shares f.shares lf)))))

abbrev pub share_line : ℕ → ℕ → ℕ → List ℕ
share_line s a b = counted s blank ++ (counted a blank ++ counted (b - a) lf)

unfoldable pub chained : List (List ℕ) → List ℕ
chained [] = []
chained (l ∷ ls) = l ++ chained ls

abbrev pub share_lines : (ℕ → ℕ) → ℕ → List ℕ
share_lines start P = chained (rows (λ s. share_line s (start s) (start (s + 1))) 0 P)

abbrev pub weights : Form → List ℕ
weights f = map (λ (v : Leaf). 1) (uniform_list CHILDREN HIGHEST f.roots f.level)

abbrev pub refusal_line : ℕ → ℕ → List ℕ
refusal_line number field = entry word_refused number blank ++ entry word_field field lf

abbrev pub printed : Outcome Form → List ℕ
printed (accepted f) = first_line f ++ share_lines (boundary f.shares (weights f)) f.shares
printed (refused number field) = refusal_line number field

abbrev pub printing : List ℕ → ℕ → Outcome (List ℕ)
printing t room = room_for (length t) room t

abbrev pub Prints : List ℕ → Result ℕ Refusal → List ℕ → List ℕ → Type 0
Prints t r m m' = Fulfils outcome_of (mapped length) written (printing t (length m)) r m m'

abbrev pub longest_output : ℕ
longest_output = 86212
