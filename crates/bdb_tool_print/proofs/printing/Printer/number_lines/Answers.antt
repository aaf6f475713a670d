use Rattle.std.proofs.Common.{ap}
use Rattle.std.specs.List.{flat_map}
use Rattle.bdb_tool_print.specs.Survey.{number_line}
use Rattle.bdb_tool_print.proofs.PrinterLemmas.{begins, cut_up, item_added, item_cut, items_added}
use Rattle.bdb_tool_print.proofs.printing.Printer.number_lines.Goals as goal

pub loop-page-init : goal.loop-page-init
loop-page-init g c =
    let same = c.into_iter-page-iterator.ensures.into_iter_gives in
    begins _ _ _ _ _ (ap (λ items. flat_map number_line items.now) same)

pub loop-page-preserved : goal.loop-page-preserved
loop-page-preserved g c =
    item_added _ _ _ _ _ number_line _ _ _ _ _ c.in-Some.ensures.steps c.in_ok-renumbered_line.was c.loop-page.invariant c.renumbered_line.ensures

pub returns-in_err-renumbered_line : goal.returns-in_err-renumbered_line
returns-in_err-renumbered_line g c =
    let is = cut_up c.from_residual.result c.in_err-renumbered_line.field-0.0 c.from_residual.ensures.1 in
    item_cut _ _ _ _ _ number_line _ _ _ _ _ _ _ c.in-Some.ensures.steps c.in_err-renumbered_line.was is c.loop-page.invariant c.renumbered_line.ensures

pub returns : goal.returns
returns g c = items_added _ _ _ _ number_line _ _ c.in-None.ensures.steps.0 c.loop-page.invariant
