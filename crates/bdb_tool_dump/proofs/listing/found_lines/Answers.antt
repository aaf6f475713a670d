use Rattle.bdb_tool_print.specs.of_model.Answers.{value_line, values_text}
use Rattle.bdb_databases.specs.of_overflow.Datum.{datum_seen}
use Rattle.bdb_tool_print.proofs.PrinterLemmas.{adds_cut, cut_up}
use Rattle.bdb_tool_dump.proofs.listing.found_lines.Goals as goal

pub returns-in_err-value_line : goal.returns-in_err-value_line
returns-in_err-value_line g c =
    let is = cut_up c.from_residual.result c.in_err-value_line.field-0.0 c.from_residual.ensures.1 in
    adds_cut _ _ _ _ (value_line c.args.print (datum_seen c.args.first.now)) (values_text c.args.print c.args.others.now) _ _ _
    c.in_err-value_line.was is c.value_line.ensures
