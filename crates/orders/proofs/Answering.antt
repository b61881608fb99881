-- Each way out of the call is one case of its contract: the output may not fit, or it must. Assumes nothing.
use mathlib.Core.Path.{◌≡◌, ap, ◌∙◌, sym, subst}
use mathlib.Core.List.{List}
use Prim.Native.Nat.{ℕ, ◌≤◌}
use native.Mathlib.Nat.{zero-add}
use native.Mathlib.Omega.{arith}
use lib.ListN.{length}
use lib.Seq.{sets}
use Rattle.paper.specs.Outcome.{Outcome}
use Rattle.std.specs.declared.result.Result.{Result}
use Rattle.std.specs.declared.result.Result.TheVariants.{Ok}
use Rattle.paper.specs.declared.Refusal.{Refusal}
use Rattle.forms.specs.declared.Form.{Form}
use Rattle.forms.specs.Forms.{read}
use Rattle.forms.proofs.Bounds.{form_orderly}
use Rattle.text.specs.Text.{printed, Prints, longest_output}
use Rattle.text.specs.Inner.{Put, spelled}
use Rattle.text.proofs.Room.{printed_few}
use Rattle.text.proofs.Sharing.{spelled_printed}
use Rattle.text.proofs.Buffers.{prints}
use Rattle.orders.specs.Calls.{output, Answered}

-- what is spelled of the form that was read is the output
spelled_output : (s : List ℕ) (o : Outcome Form) → o ≡ read s → spelled o ≡ output s
spelled_output s o is = spelled_printed o (λ f said. form_orderly s f (sym is ∙ said)) ∙ ap printed is

module _ (s m : List ℕ) (o : Outcome Form) (is : o ≡ read s) where
  -- it may not fit
  pub answered : (r : Result ℕ Refusal) (m' : List ℕ) → Prints (spelled o) r m m' → Answered r s m m'
  answered r m' = subst (λ (t : List ℕ). Prints t r m m') (spelled_output s o is)

  -- it must
  pub answered_all : (r : ℕ) (m' : List ℕ) → longest_output ≤ length m → Put (spelled o) 0 m m' r → Answered (Ok r) s m m'
  answered_all r m' room put =
      let whole : r ≡ length (output s) = put.end ∙ zero-add _ ∙ ap length (spelled_output s o is) in
      let few = printed_few (read s) (form_orderly s) in
      prints (output s) m r whole m' (omega arith) (put.written ∙ ap (sets m 0) (spelled_output s o is))
