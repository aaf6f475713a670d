use Rattle.bdb_text.specs.of_text_format.Terms.{data_line, key_bytes, line}
use Rattle.bdb_range.specs.of_overflow.Datum.{datum_seen, key_view_seen}
use Rattle.bdb_tool_print.proofs.PrinterLemmas.{adds_cut, cut_up, then_adds}
use Rattle.bdb_tool_print.proofs.printing.Printer.both_lines.Goals as goal

pub returns-in_err-key_line : goal.returns-in_err-key_line
returns-in_err-key_line g c =
    let is = cut_up c.from_residual.result c.in_err-key_line.field-0.0 c.from_residual.ensures.1 in
    adds_cut _ _ _ _ (line (data_line c.args.print (key_bytes (key_view_seen c.args.key.now)))) (line (data_line c.args.print (datum_seen c.args.value.now))) _
    _ _
    c.in_err-key_line.was is c.key_line.ensures

pub returns : goal.returns
returns g c =
    then_adds _ _ _ _ _ (line (data_line c.args.print (key_bytes (key_view_seen c.args.key.now)))) (line (data_line c.args.print (datum_seen c.args.value.now)))
    _ _
    c.in_ok-key_line.was c.key_line.ensures c.data_line.ensures
