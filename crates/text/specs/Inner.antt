-- Inner contracts: what functions ask and answer that only this house calls. A reader of the promises may skip this file. Definitions only.
--
--   Put t at l l' r  the bytes t stand in l' from at on, what lies past the end of l left out, and r is where they end
--   Wrote t w w'     from w on the writer has put the bytes t into its buffer, and has come to w'
--   spelled o        the bytes of `printed`, where share s of equal weights begins at leaf s·n / p: the thesis's formula 27
--
-- Assumes nothing.
use Rattle.std.specs.Prelude.{◌≡◌, List, ◌++◌, ℕ, ◌+◌, ◌*◌, ◌/◌, length}
use Rattle.std.proofs.lemmas.List.Edits.{sets}
use Rattle.paper.specs.Outcome.{Outcome, accepted, refused}
use Rattle.forms.specs.declared.Form.{Form}
use Rattle.text.specs.Text.{first_line, share_lines, refusal_line}
use Rattle.text.specs.declared.writer.Writer.{Writer}

pub record Put (t : List ℕ) (at : ℕ) (l l' : List ℕ) (r : ℕ) : Type 0 where
  pub written : l' ≡ sets l at t
  pub end : r ≡ at + length t

pub record Wrote (t : List ℕ) (w w' : Writer) : Type 0 where
  pub same_buffer : w'.out.ghost_name ≡ w.out.ghost_name
  pub put : Put t w.at w.out.now w'.out.now w'.at

abbrev pub spelled : Outcome Form → List ℕ
spelled (accepted f) = first_line f ++ share_lines (λ s. s * f.leaves / f.shares) f.shares
spelled (refused number field) = refusal_line number field
