-- `read` meets its contract: each field in turn is the first with a fault, or the line goes on after it. Assumes nothing.
use Rattle.std.proofs.Common.{arith, sym, ◌∙◌}
use Rattle.forms.proofs.Deciding.{reading_start, reading_unfit}
use Rattle.forms.proofs.Whole.{refused_out, unfit_site, unfit_model, unfit_roots, outside_roots, unfit_highest, outside_highest, unfit_shares, outside_shares, unfit_level, outside_level, loose_end, leaves_small, form_read}
use Rattle.forms.proofs.read.Goals as goal

pub returns-in_err-order : goal.returns-in_err-order
returns-in_err-order c =
    refused_out _ c.from_residual.result c.from_residual.ensures.1 (reading_unfit (reading_start c.args.input.now) (omega arith)
    c.in_err-order.ensures)

pub returns-in_err-site : goal.returns-in_err-site
returns-in_err-site c =
    refused_out _ c.from_residual-in_err-site.result c.from_residual-in_err-site.ensures.1
    (unfit_site c.args.input.now c.in_ok-order.ensures c.after.ensures c.in_err-site.ensures)

pub returns-in_err-model : goal.returns-in_err-model
returns-in_err-model c =
    refused_out _ c.from_residual-in_err-model.result c.from_residual-in_err-model.ensures.1
    (unfit_model c.args.input.now c.in_ok-order.ensures c.after.ensures c.in_ok-site.ensures c.after-2.ensures c.in_err-model.ensures)

pub returns-in_err-roots : goal.returns-in_err-roots
returns-in_err-roots c =
    refused_out _ c.from_residual-in_err-roots.result c.from_residual-in_err-roots.ensures.1
    (unfit_roots c.args.input.now c.in_ok-order.ensures c.after.ensures c.in_ok-site.ensures c.after-2.ensures c.in_ok-model.ensures
    c.after-3.ensures c.in_err-roots.ensures)

pub returns-in_err-check_count : goal.returns-in_err-check_count
returns-in_err-check_count c =
    refused_out _ c.from_residual-in_err-check_count.result c.from_residual-in_err-check_count.ensures.1
    (outside_roots c.args.input.now c.in_ok-order.ensures c.after.ensures c.in_ok-site.ensures c.after-2.ensures c.in_ok-model.ensures
    c.after-3.ensures c.in_ok-roots.ensures c.in_err-check_count.ensures)

pub returns-in_err-highest : goal.returns-in_err-highest
returns-in_err-highest c =
    refused_out _ c.from_residual-in_err-highest.result c.from_residual-in_err-highest.ensures.1
    (unfit_highest c.args.input.now c.in_ok-order.ensures c.after.ensures c.in_ok-site.ensures c.after-2.ensures c.in_ok-model.ensures
    c.after-3.ensures c.in_ok-roots.ensures c.in_ok-check_count.ensures c.after-4.ensures c.in_err-highest.ensures)

pub returns-in_err-check_highest : goal.returns-in_err-check_highest
returns-in_err-check_highest c =
    refused_out _ c.from_residual-in_err-check_highest.result c.from_residual-in_err-check_highest.ensures.1
    (outside_highest c.args.input.now c.in_ok-order.ensures c.after.ensures c.in_ok-site.ensures c.after-2.ensures c.in_ok-model.ensures
    c.after-3.ensures c.in_ok-roots.ensures c.in_ok-check_count.ensures c.after-4.ensures c.in_ok-highest.ensures c.in_err-check_highest.ensures)

pub returns-in_err-shares : goal.returns-in_err-shares
returns-in_err-shares c =
    refused_out _ c.from_residual-in_err-shares.result c.from_residual-in_err-shares.ensures.1
    (unfit_shares c.args.input.now c.in_ok-order.ensures c.after.ensures c.in_ok-site.ensures c.after-2.ensures c.in_ok-model.ensures
    c.after-3.ensures c.in_ok-roots.ensures c.in_ok-check_count.ensures c.after-4.ensures c.in_ok-highest.ensures c.in_ok-check_highest.ensures
    c.after-5.ensures c.in_err-shares.ensures)

pub returns-in_err-check_count-2 : goal.returns-in_err-check_count-2
returns-in_err-check_count-2 c =
    refused_out _ c.from_residual-in_err-check_count-2.result c.from_residual-in_err-check_count-2.ensures.1
    (outside_shares c.args.input.now c.in_ok-order.ensures c.after.ensures c.in_ok-site.ensures c.after-2.ensures c.in_ok-model.ensures
    c.after-3.ensures c.in_ok-roots.ensures c.in_ok-check_count.ensures c.after-4.ensures c.in_ok-highest.ensures c.in_ok-check_highest.ensures
    c.after-5.ensures c.in_ok-shares.ensures c.in_err-check_count-2.ensures)

pub returns-in_err-level : goal.returns-in_err-level
returns-in_err-level c =
    refused_out _ c.from_residual-in_err-level.result c.from_residual-in_err-level.ensures.1
    (unfit_level c.args.input.now c.in_ok-order.ensures c.after.ensures c.in_ok-site.ensures c.after-2.ensures c.in_ok-model.ensures
    c.after-3.ensures c.in_ok-roots.ensures c.in_ok-check_count.ensures c.after-4.ensures c.in_ok-highest.ensures c.in_ok-check_highest.ensures
    c.after-5.ensures c.in_ok-shares.ensures c.in_ok-check_count-2.ensures c.after-6.ensures c.in_err-level.ensures)

pub returns-in_err-check_level : goal.returns-in_err-check_level
returns-in_err-check_level c =
    refused_out _ c.from_residual-in_err-check_level.result c.from_residual-in_err-check_level.ensures.1
    (outside_level c.args.input.now c.in_ok-order.ensures c.after.ensures c.in_ok-site.ensures c.after-2.ensures c.in_ok-model.ensures
    c.after-3.ensures c.in_ok-roots.ensures c.in_ok-check_count.ensures c.after-4.ensures c.in_ok-highest.ensures c.in_ok-check_highest.ensures
    c.after-5.ensures c.in_ok-shares.ensures c.in_ok-check_count-2.ensures c.after-6.ensures c.in_ok-level.ensures c.in_err-check_level.ensures)

pub returns-then-not-closing : goal.returns-then-not-closing
returns-then-not-closing c =
    loose_end c.args.input.now c.in_ok-order.ensures c.after.ensures c.in_ok-site.ensures c.after-2.ensures c.in_ok-model.ensures c.after-3.ensures
    c.in_ok-roots.ensures c.in_ok-check_count.ensures c.after-4.ensures c.in_ok-highest.ensures c.in_ok-check_highest.ensures c.after-5.ensures
    c.in_ok-shares.ensures c.in_ok-check_count-2.ensures c.after-6.ensures c.in_ok-level.ensures c.in_ok-check_level.ensures
    (sym c.closing.ensures ∙ c.if-not-closing.true)

pub overflow_cast-result : goal.overflow_cast-result
overflow_cast-result c = omega (arith, leaves_small c.args.input.now c.in_ok-order.ensures c.after.ensures c.in_ok-site.ensures c.after-2.ensures c.in_ok-model.ensures c.after-3.ensures c.in_ok-roots.ensures c.in_ok-check_count.ensures c.after-4.ensures c.in_ok-highest.ensures c.in_ok-check_highest.ensures c.after-5.ensures c.in_ok-shares.ensures c.in_ok-check_count-2.ensures c.after-6.ensures c.in_ok-level.ensures c.in_ok-check_level.ensures)

pub returns : goal.returns
returns c =
    form_read c.args.input.now c.in_ok-order.ensures c.after.ensures c.in_ok-site.ensures c.after-2.ensures c.in_ok-model.ensures c.after-3.ensures
    c.in_ok-roots.ensures c.in_ok-check_count.ensures c.after-4.ensures c.in_ok-highest.ensures c.in_ok-check_highest.ensures c.after-5.ensures
    c.in_ok-shares.ensures c.in_ok-check_count-2.ensures c.after-6.ensures c.in_ok-level.ensures c.in_ok-check_level.ensures
    (sym c.closing.ensures ∙ c.if-not-closing.false)
