-- Inner contracts: what functions ask and answer that only this house calls. A reader of the promises may skip this file. Definitions only.
--
--   field_at s at  the field from the cursor `at` on
--   taken s at i   the number in field i, which begins at the cursor, and where it ends; refused 23 at the field where it is none
--   checked n i    the outcome of a check whose fault is n, 0 for none, at field i
--
-- Assumes nothing.
use Rattle.std.specs.Prelude.{not, List, ℕ, ◌+◌, eqb, length, drop}
use Rattle.paper.specs.Outcome.{Outcome, accepted, passed, refuse_when_at}
use Rattle.fields.specs.Fields.{is_number, value}
use Rattle.fields.specs.Inner.{piece}

abbrev pub field_at : List ℕ → ℕ → List ℕ
field_at s at = piece (drop at s)

abbrev pub taken : List ℕ → ℕ → ℕ → Outcome (ℕ × ℕ)
taken s at i = refuse_when_at (not (is_number (field_at s at))) 23 i (accepted (value (field_at s at), at + length (field_at s at)))

abbrev pub checked : ℕ → ℕ → Outcome (Unit {0})
checked n i = refuse_when_at (not (eqb n 0)) n i passed
