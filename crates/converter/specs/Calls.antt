-- The call: from a stored line's bytes to the converter's bytes in a lent buffer. Definitions only.
--
--   convert s room   what the converter prints on the input s, for a buffer of room bytes; 14 where it has not so many
--   Converts         the contract of the call: it answers how many bytes are printed, and they stand at the front of the lent buffer
--
-- A line that the old program refused is an answered call: its output is the old refusal. The call itself refuses only 14.
-- Assumes nothing.
use Rattle.std.specs.Prelude.{List, ℕ}
use Rattle.paper.specs.Outcome.{Outcome}
use Rattle.std.specs.declared.result.Result.{Result}
use Rattle.paper.specs.declared.Refusal.{Refusal}
use Rattle.text.specs.Text.{printing, Prints}
use Rattle.converter.specs.Converter.{converted}

abbrev pub convert : List ℕ → ℕ → Outcome (List ℕ)
convert s room = printing (converted s) room

abbrev pub Converts : Result ℕ Refusal → List ℕ → List ℕ → List ℕ → Type 0
Converts r s m m' = Prints (converted s) r m m'
