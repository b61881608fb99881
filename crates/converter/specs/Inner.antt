-- Inner contracts: what functions ask and answer that only this house calls. A reader of the promises may skip this file. Definitions only.
--
--   begins k s    where the field after k others begins in the bytes s; past their end where there is none
--   gap_at s at   `at`, where an empty field begins there; else past the end
--   gap s         where an empty field seven begins; past the end where there is none
--   filled s at   the bytes s with a 2 put in at `at`; s itself where that is past the end
--   or_past s r   where in the bytes s the answer r stands; past their end where there is none
--   kept t        what is printed for a line t without a gap: t itself where it is an order, else its refusal
--
-- Assumes nothing.
use Rattle.std.specs.Prelude.{cond, Option, Some, None, List, [], ◌∷◌, ◌++◌, ℕ, zero, suc, ◌+◌, eqb, ltb, length, take, drop}
use Rattle.fields.specs.Fields.{lf, semicolon}
use Rattle.fields.specs.Inner.{piece}
use Rattle.forms.specs.Forms.{read}
use Rattle.converter.specs.Converter.{two, unless_refused}

unfoldable pub begins : ℕ → List ℕ → ℕ
begins zero s = 0
begins (suc k) [] = 1
begins (suc k) (b ∷ s) = cond (eqb b lf) (length s + 2) (suc (cond (eqb b semicolon) (begins k s) (begins (suc k) s)))

abbrev pub gap_at : List ℕ → ℕ → ℕ
gap_at s at = cond (eqb (length (piece (drop at s))) 0) at (length s + 1)

abbrev pub gap : List ℕ → ℕ
gap s = gap_at s (begins 6 s)

abbrev pub filled : List ℕ → ℕ → List ℕ
filled s at = cond (ltb (length s) at) s (take at s ++ (two ∷ drop at s))

abbrev pub or_past : List ℕ → Option ℕ → ℕ
or_past s (Some at) = at
or_past s None = length s + 1

abbrev pub kept : List ℕ → List ℕ
kept t = unless_refused (read t) t
