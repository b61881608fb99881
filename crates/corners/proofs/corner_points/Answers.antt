-- `corner_points` meets its contract: each way out is one case of the call. Assumes nothing.
use Rattle.std.proofs.Common.{◌∙◌, sym}
use Rattle.std.proofs.lemmas.Result.{err_from_is_err_and}
use Rattle.paper.specs.Refusals.{number_of, place_of}
use Rattle.paper.specs.declared.Refusal.TheVariants.{UnfitColumns}
use Rattle.corners.proofs.SectionCall.{section_refused, section_11, at_positions, at_corner, section_done, tested}
use Rattle.corners.proofs.corner_points.Goals as goal

pub returns-then-not-equal_lengths : goal.returns-then-not-equal_lengths
returns-then-not-equal_lengths c =
    section_refused _ _ _ _ _ (UnfitColumns 0) (section_11 _ _ _ _ _ (sym c.equal_lengths.ensures ∙ c.if-not-equal_lengths.true))

pub returns-in_err-check : goal.returns-in_err-check
returns-in_err-check c =
    let x = c.in_err-check.field-0.0 in
    let p = err_from_is_err_and c.from_residual.result c.from_residual.ensures.1 in
    rw (p.1, p.2)
    (section_refused _ _ _ _ _ x
    (at_positions _ _ _ _ _ (sym c.equal_lengths.ensures ∙ c.if-not-equal_lengths.false) (number_of x) (place_of x) c.in_err-check.ensures))

pub returns-in_err-check_corner : goal.returns-in_err-check_corner
returns-in_err-check_corner c =
    let x = c.in_err-check_corner.field-0.0 in
    let f = c.from_residual-in_err-check_corner in
    let p = err_from_is_err_and f.result f.ensures.1 in
    rw (p.1, p.2)
    (section_refused _ _ _ _ _ x
    (at_corner _ _ _ _ _ (sym c.equal_lengths.ensures ∙ c.if-not-equal_lengths.false) (number_of x) (place_of x) c.in_ok-check.ensures c.in_err-check_corner.ensures))

pub fill-requires : goal.fill-requires
fill-requires c =
    tested _ _ _ _ _ (sym c.equal_lengths.ensures ∙ c.if-not-equal_lengths.false) c.in_ok-check.ensures c.in_ok-check_corner.ensures

pub returns : goal.returns
returns c =
    section_done _ _ _ _ _
    (tested _ _ _ _ _ (sym c.equal_lengths.ensures ∙ c.if-not-equal_lengths.false) c.in_ok-check.ensures c.in_ok-check_corner.ensures)
    _ c.fill.ensures
