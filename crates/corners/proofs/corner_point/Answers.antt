-- `corner_point` meets its contract: each way out is one case of the call, and the element is the one at the position. Assumes nothing.
use Rattle.std.proofs.Common.{ap, ◌∙◌}
use Rattle.std.proofs.lemmas.Result.{err_from_is_err_and}
use Rattle.paper.specs.Outcome.{accepted}
use Rattle.paper.specs.Refusals.{number_of, place_of}
use Rattle.prism.specs.Points.{Corner}
use Rattle.corners.specs.CornerPoints.{point_at}
use Rattle.corners.proofs.Call.{at_position, at_corner, at_point, found_sound, checked}
use Rattle.corners.proofs.corner_point.Goals as goal

pub returns-in_err-e : goal.returns-in_err-e
returns-in_err-e c =
    let x = c.in_err-e.field-0.0 in
    let p = err_from_is_err_and c.from_residual.result c.from_residual.ensures.1 in
    rw (p.1, p.2) (at_position _ _ _ _ (number_of x) (place_of x) c.in_err-e.ensures)

pub returns-in_err-check_corner : goal.returns-in_err-check_corner
returns-in_err-check_corner c =
    let x = c.in_err-check_corner.field-0.0 in
    let f = c.from_residual-in_err-check_corner in
    let p = err_from_is_err_and f.result f.ensures.1 in
    rw (p.1, p.2) (at_corner _ _ _ _ _ c.in_ok-e.ensures (number_of x) (place_of x) c.in_err-check_corner.ensures)

pub local_of-requires : goal.local_of-requires
local_of-requires c =
    (found_sound c.args.level c.args.position c.in_ok-e.e c.in_ok-e.ensures, (checked c.args.corner c.args.root c.in_ok-check_corner.ensures).0)

pub placed-requires : goal.placed-requires
placed-requires c = (checked c.args.corner c.args.root c.in_ok-check_corner.ensures).1

pub returns : goal.returns
returns c =
    ap accepted (c.placed.ensures ∙ ap (λ (x : Corner). point_at c.args.root x) c.local_of.ensures)
    ∙ at_point _ _ _ _ _ c.in_ok-e.ensures c.in_ok-check_corner.ensures
