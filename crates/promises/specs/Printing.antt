-- Demand 2, of orders: what the calls that print leave in the buffers that they were lent. Definitions only.
--
--   Holds t N m m'     a call that found the buffer m, with room for N bytes, left m': the N bytes t at its front, and behind them what m held there
--   Printed shown most C D
--                      a call with the contract C, and its function over C with the contract D: where it answers N on an input, its buffer holds the N
--                      bytes shown for that input; and in a buffer of `most` bytes or more it answers
--   OfOrders           of the order program
--   OfStored           of the converter; and of a stored order run again (`rerun`): on the bytes that the converter's call left for a line that the old
--                      program accepted, the order program's call leaves what the old program printed on that line; over C too
--
-- Assumes nothing.
use Rattle.std.specs.Prelude.{◌≡◌, List, ℕ, ◌≤◌, length, take, drop}
use Rattle.paper.specs.Outcome.{accepted}
use Rattle.paper.specs.Refusals.{outcome_of}
use Rattle.std.specs.declared.result.Result.{Result}
use Rattle.paper.specs.declared.Refusal.{Refusal}
use Rattle.forms.specs.declared.Form.{Form}
use Rattle.text.specs.Text.{longest_output}
use Rattle.orders.specs.Calls.{output, Answered}
use Rattle.orders.specs.Laws as orders
use Rattle.converter.specs.Converter.{old_read, old_output, converted, longest_line}
use Rattle.converter.specs.Calls.{Converts}
use Rattle.converter.specs.Laws as converter
use Rattle.results.specs.declared.NumberResult.{NumberResult}
use Rattle.interface.specs.Calls.{OrderResult, ConvertResult}

pub record Holds (t : List ℕ) (N : ℕ) (m m' : List ℕ) : Type 0 where
  pub many : N ≡ length t
  pub room : N ≤ length m
  pub front : take N m' ≡ t
  pub behind : drop N m' ≡ drop N m

pub record Printed (shown : List ℕ → List ℕ) (most : ℕ) (C : Result ℕ Refusal → List ℕ → List ℕ → List ℕ → Type 0)
    (D : NumberResult → List ℕ → List ℕ → List ℕ → Type 0) : Type 0 where
  pub in_memory : (input : List ℕ) (N : ℕ) (r : Result ℕ Refusal) (m m' : List ℕ) → C r input m m' → outcome_of r ≡ accepted N → Holds (shown input) N m m'
  pub over_c : (input : List ℕ) (r : NumberResult) (m m' : List ℕ) → D r input m m' → r.refusal ≡ 0 → Holds (shown input) r.value m m'
  pub enough : (input : List ℕ) (r : Result ℕ Refusal) (m m' : List ℕ) → C r input m m' → most ≤ length m → outcome_of r ≡ accepted (length (shown input))
  pub enough_over_c : (input : List ℕ) (r : NumberResult) (m m' : List ℕ) → D r input m m' → most ≤ length m → r.refusal ≡ 0

pub record OfOrders : Type 0 where
  pub promised : orders.Promised
  pub printed : Printed output longest_output Answered OrderResult

pub record OfStored : Type 0 where
  pub promised : converter.Promised
  pub printed : Printed converted longest_line Converts ConvertResult
  pub rerun : (s : List ℕ) (f : Form) → old_read s ≡ accepted f → (N N₂ : ℕ) (r r₂ : Result ℕ Refusal) (m m' n n' : List ℕ)
      → Converts r s m m' → outcome_of r ≡ accepted N → Answered r₂ (take N m') n n' → outcome_of r₂ ≡ accepted N₂ → Holds (old_output s) N₂ n n'
  pub rerun_over_c : (s : List ℕ) (f : Form) → old_read s ≡ accepted f → (r r₂ : NumberResult) (m m' n n' : List ℕ)
      → ConvertResult r s m m' → r.refusal ≡ 0 → OrderResult r₂ (take r.value m') n n' → r₂.refusal ≡ 0 → Holds (old_output s) r₂.value n n'
