-- `convert` meets its contract: a line without a gap is kept, and so is one whose gap is filled. Assumes nothing.
use Rattle.std.proofs.Common.{arith}
use Rattle.converter.proofs.Fronts.{first_bytes, converts_as_is, converts_filled}
use Rattle.converter.proofs.convert.Goals as goal

pub returns-in_default : goal.returns-in_default
returns-in_default c =
    let s = c.args.input.now in
    converts_as_is s _ (first_bytes s c.fitting.result c.fitting.ensures) _ c.in_default.ensures.spot _ c.args.out.now _ (omega arith) c.kept.ensures

pub returns : goal.returns
returns c =
    let s = c.args.input.now in
    converts_filled s _ (first_bytes s c.fitting.result c.fitting.ensures) _ c.in-Some.ensures.spot _ c.args.out.now _ _ c.fill.ensures c.kept-2.ensures
