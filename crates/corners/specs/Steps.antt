-- Inner contracts: how far a corner of a child lies from the parent's anchor. A reader of the promises may skip this file.
--
--   steps_to c      the steps to corner c of a triangle's four children, for a parent of either type: a hexadecimal digit for each, 4 times the sides
--                   along x plus those along y; that they are the paper's is a law (`proofs/Children.antt`)
--   digit_of c t n  that of child n of a parent of type t
--
-- Assumes nothing.
use Rattle.std.specs.Prelude.{ℕ, zero, suc, ◌+◌, ◌*◌, ◌/◌, ◌%◌, ◌^◌}

-- in hexadecimal 51105440, 62519584, a665a995
abbrev pub steps_to : ℕ → ℕ
steps_to zero = 1360024640
steps_to (suc zero) = 1649513860
steps_to (suc (suc c)) = 2791680405

abbrev pub digit_of : ℕ → ℕ → ℕ → ℕ
digit_of c t n = steps_to c / 2 ^ (16 * t + 4 * n) % 16
