use Rattle.std.proofs.Common.{ap}
use Rattle.bdb_tool_print.specs.of_model.Answers.{value_line, values_text}
use Rattle.bdb_tool_print.proofs.PrinterLemmas.{begins, cut_up, item_added, item_cut, items_added}
use Rattle.bdb_tool_dump.proofs.listing.value_lines.Goals as goal

pub loop-value-init : goal.loop-value-init
unfolding values_text
loop-value-init g c =
    let same = c.into_iter-value-iterator.ensures.into_iter_gives in
    begins _ _ _ _ _ (ap (λ values. values_text c.args.print values.now) same)

pub loop-value-preserved : goal.loop-value-preserved
loop-value-preserved g c = item_added _ _ _ _ _ (value_line c.args.print) _ _ _ _ _ c.in-Some.ensures.steps c.in_ok-found_line.was c.loop-value.invariant
    c.found_line.ensures

pub returns-in_err-found_line : goal.returns-in_err-found_line
returns-in_err-found_line g c =
    let is = cut_up c.from_residual.result c.in_err-found_line.field-0.0 c.from_residual.ensures.1 in
    item_cut _ _ _ _ _ (value_line c.args.print) _ _ _ _ _ _ _ c.in-Some.ensures.steps c.in_err-found_line.was is c.loop-value.invariant c.found_line.ensures

pub returns : goal.returns
returns g c = items_added _ _ _ _ (value_line c.args.print) _ _ c.in-None.ensures.steps.0 c.loop-value.invariant
