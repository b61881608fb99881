-- The call: from the input's bytes to the output's bytes in a lent buffer. Definitions only.
--
--   output s        what the program prints on the input s
--   answer s room   the output, for a buffer of room bytes; 14 where it has not so many
--   Answered        the contract of the call: it answers how many bytes are printed, and they stand at the front of the lent buffer
--
-- A refused order is an answered call: its output is the line of refusal. The call itself refuses only 14.
-- Assumes nothing.
use Rattle.std.specs.Prelude.{List, ℕ}
use Rattle.paper.specs.Outcome.{Outcome}
use Rattle.std.specs.declared.result.Result.{Result}
use Rattle.paper.specs.declared.Refusal.{Refusal}
use Rattle.forms.specs.Forms.{read}
use Rattle.text.specs.Text.{printed, printing, Prints}

abbrev pub output : List ℕ → List ℕ
output s = printed (read s)

abbrev pub answer : List ℕ → ℕ → Outcome (List ℕ)
answer s room = printing (output s) room

abbrev pub Answered : Result ℕ Refusal → List ℕ → List ℕ → List ℕ → Type 0
Answered r s m m' = Prints (output s) r m m'
