-- `main` is safe: no output is longer than the buffer, so the call never refuses it. Assumes nothing.
use Rattle.std.proofs.Common.{ℕ, sym, le_of_eq, le_trans}
use lib.ListN.{length-replicate}
use Rattle.text.specs.Text.{longest_output}
use Rattle.text.proofs.Buffers.{answers}
use Rattle.orders.specs.Calls.{output}
use Rattle.orders.proofs.Promised.{promised}
use Rattle.order.proofs.main.Goals as goal

pub unwrap-size-requires : goal.unwrap-size-requires
unwrap-size-requires c =
    answers (output _) _ _ c.answer.result c.answer.ensures (le_trans (promised.room _) (le_of_eq (sym (length-replicate {A = ℕ} longest_output 0))))
