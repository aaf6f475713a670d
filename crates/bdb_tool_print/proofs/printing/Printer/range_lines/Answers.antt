use Rattle.std.proofs.Common.{ap}
use Rattle.bdb_tool_lines.specs.of_model.Answers.{pair_lines, pairs_text}
use Rattle.bdb_tool_print.proofs.PrinterLemmas.{begins, cut_up, item_added, item_cut, items_added}
use Rattle.bdb_tool_print.proofs.printing.Printer.range_lines.Goals as goal

pub loop-key-init : goal.loop-key-init
unfolding pairs_text
loop-key-init g c =
    let same = c.into_iter-key-iterator.ensures.into_iter_gives in
    begins _ _ _ _ _ (ap (λ pairs. pairs_text c.args.print pairs.now) same)

pub loop-key-preserved : goal.loop-key-preserved
loop-key-preserved g c =
    item_added _ _ _ _ _ (pair_lines c.args.print) _ _ _ _ _ c.in-Some.ensures.steps c.in_ok-pair_of_range.was c.loop-key.invariant c.pair_of_range.ensures

pub returns-in_err-pair_of_range : goal.returns-in_err-pair_of_range
returns-in_err-pair_of_range g c =
    let is = cut_up c.from_residual.result c.in_err-pair_of_range.field-0.0 c.from_residual.ensures.1 in
    item_cut _ _ _ _ _ (pair_lines c.args.print) _ _ _ _ _ _ _ c.in-Some.ensures.steps c.in_err-pair_of_range.was is c.loop-key.invariant
    c.pair_of_range.ensures

pub returns : goal.returns
returns g c = items_added _ _ _ _ (pair_lines c.args.print) _ _ c.in-None.ensures.steps.0 c.loop-key.invariant
