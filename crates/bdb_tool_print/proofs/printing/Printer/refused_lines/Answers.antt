use Rattle.std.proofs.Common.{ap}
use Rattle.std.specs.List.{flat_map}
use Rattle.bdb_tool_print.specs.Survey.{refused_line}
use Rattle.bdb_tool_print.proofs.PrinterLemmas.{begins, cut_up, item_added, item_cut, items_added}
use Rattle.bdb_tool_print.proofs.printing.Printer.refused_lines.Goals as goal

pub loop-named-init : goal.loop-named-init
loop-named-init g c =
    let same = c.into_iter-named-iterator.ensures.into_iter_gives in
    begins _ _ _ _ _ (ap (λ items. flat_map refused_line items.now) same)

pub loop-named-preserved : goal.loop-named-preserved
loop-named-preserved g c =
    item_added _ _ _ _ _ refused_line _ _ _ _ _ c.in-Some.ensures.steps c.in_ok-refused_line.was c.loop-named.invariant c.refused_line.ensures

pub returns-in_err-refused_line : goal.returns-in_err-refused_line
returns-in_err-refused_line g c =
    let is = cut_up c.from_residual.result c.in_err-refused_line.field-0.0 c.from_residual.ensures.1 in
    item_cut _ _ _ _ _ refused_line _ _ _ _ _ _ _ c.in-Some.ensures.steps c.in_err-refused_line.was is c.loop-named.invariant c.refused_line.ensures

pub returns : goal.returns
returns g c = items_added _ _ _ _ refused_line _ _ c.in-None.ensures.steps.0 c.loop-named.invariant
