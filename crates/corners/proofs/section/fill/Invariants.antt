-- `fill` meets its contract: the points before i are written, and the parent of the last is kept. Assumes nothing.
use Rattle.corners.specs.Section.{point_columns}
use Rattle.corners.proofs.Filling.{Underway}
use Rattle.corners.proofs.section.fill.Given as goal

abbrev pub invariant-loop-i : goal.invariant-loop-i
invariant-loop-i l =
    Underway l.level l.positions l.corner l.root (point_columns l.initial.xs l.initial.ys l.initial.zs) l.i l.kept (point_columns l.xs l.ys l.zs)
