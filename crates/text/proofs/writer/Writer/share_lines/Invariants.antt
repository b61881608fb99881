-- `share_lines` meets its contract: before share s, the lines of the shares before it are written. Assumes nothing.
use Rattle.std.proofs.Common.{◌≡◌, ◌+◌, ◌*◌, ◌/◌, ◌≤◌}
use Rattle.text.proofs.Lines.{Listed}
use Rattle.text.proofs.writer.Writer.share_lines.Given as goal

abbrev pub invariant-loop-s : goal.invariant-loop-s
invariant-loop-s l = (l.self.at ≤ l.initial.self.at + 63 * l.s) × (l.from ≡ l.s * l.n / l.p) × Listed l.n l.p l.initial.self l.s l.self
