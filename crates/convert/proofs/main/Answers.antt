-- `main` is safe: no output is longer than the buffer, so the call never refuses it. Assumes nothing.
use Rattle.std.proofs.Common.{ℕ, sym, le_of_eq, le_trans}
use lib.ListN.{length-replicate}
use Rattle.text.proofs.Buffers.{answers}
use Rattle.converter.specs.Converter.{converted, longest_line}
use Rattle.converter.proofs.Promised.{promised}
use Rattle.convert.proofs.main.Goals as goal

pub unwrap-size-requires : goal.unwrap-size-requires
unwrap-size-requires c =
    answers (converted _) _ _ c.convert.result c.convert.ensures (le_trans (promised.room _) (le_of_eq (sym (length-replicate {A = ℕ} longest_line 0))))
