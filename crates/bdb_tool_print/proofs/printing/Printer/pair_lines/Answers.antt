use Rattle.bdb_tool_lines.specs.of_model.Answers.{value_line}
use Rattle.bdb_text.specs.of_text_format.Terms.{key_bytes}
use Rattle.bdb_range.specs.of_overflow.Datum.{datum_seen, key_view_seen}
use Rattle.bdb_tool_print.proofs.PrinterLemmas.{adds_cut, cut_up, then_adds}
use Rattle.bdb_tool_print.proofs.printing.Printer.pair_lines.Goals as goal

pub returns-in_err-key_alone : goal.returns-in_err-key_alone
returns-in_err-key_alone g c =
    let is = cut_up c.from_residual.result c.in_err-key_alone.field-0.0 c.from_residual.ensures.1 in
    adds_cut _ _ _ _ (value_line c.args.print (key_bytes (key_view_seen c.args.key.now))) (value_line c.args.print (datum_seen c.args.value.now)) _ _ _
    c.in_err-key_alone.was is c.key_alone.ensures

pub returns : goal.returns
returns g c =
    then_adds _ _ _ _ _ (value_line c.args.print (key_bytes (key_view_seen c.args.key.now))) (value_line c.args.print (datum_seen c.args.value.now)) _ _
    c.in_ok-key_alone.was c.key_alone.ensures c.value_line.ensures
