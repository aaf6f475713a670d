use Rattle.std.proofs.Common.{◌∙◌}
use Rattle.bdb_tool_print.proofs.printing.Printer.case_line.Goals as goal

pub returns-in-Some : goal.returns-in-Some
returns-in-Some g c = rw c.in-Some.is (rw (c.as_bytes.ensures.value ∙ c.case_name.ensures) at c.word_line.ensures)
