-- `steps` meets its contract: after i turns the word has its lowest i digits. Assumes nothing.
use Rattle.std.proofs.Common.{◌≡◌, ◌*◌, ◌%◌, ◌^◌}
use Rattle.corners.specs.Steps.{steps_to}
use Rattle.corners.proofs.child.steps.Given as goal

abbrev pub invariant-loop-i : goal.invariant-loop-i
invariant-loop-i l = l.word ≡ steps_to (l.corner % 3) % 2 ^ (4 * l.i)
