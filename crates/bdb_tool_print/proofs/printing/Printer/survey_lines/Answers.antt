use Rattle.std.proofs.Common.{ap}
use Rattle.std.specs.List.{flat_map}
use Rattle.bdb_tool_print.specs.Survey.{found_line}
use Rattle.bdb_tool_print.proofs.PrinterLemmas.{begins, cut_up, item_added, item_cut, items_added}
use Rattle.bdb_tool_print.proofs.printing.Printer.survey_lines.Goals as goal

pub loop-db-init : goal.loop-db-init
loop-db-init g c =
    let same = c.into_iter-db-iterator.ensures.into_iter_gives in
    begins _ _ _ _ _ (ap (λ items. flat_map found_line items.now) same)

pub loop-db-preserved : goal.loop-db-preserved
loop-db-preserved g c =
    item_added _ _ _ _ _ found_line _ _ _ _ _ c.in-Some.ensures.steps c.in_ok-survey_line.was c.loop-db.invariant c.survey_line.ensures

pub returns-in_err-survey_line : goal.returns-in_err-survey_line
returns-in_err-survey_line g c =
    let is = cut_up c.from_residual.result c.in_err-survey_line.field-0.0 c.from_residual.ensures.1 in
    item_cut _ _ _ _ _ found_line _ _ _ _ _ _ _ c.in-Some.ensures.steps c.in_err-survey_line.was is c.loop-db.invariant c.survey_line.ensures

pub returns : goal.returns
returns g c = items_added _ _ _ _ found_line _ _ c.in-None.ensures.steps.0 c.loop-db.invariant
