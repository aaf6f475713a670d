use Rattle.std.proofs.Common.{◌∙◌}
use Rattle.bdb_tool_print.proofs.printing.Printer.row.Goals as goal

pub returns : goal.returns
returns g c =
    let named = c.as_bytes.ensures.value ∙ c.entry-entry.ensures.name in
    rw c.entry-entry.ensures.code at (rw named at c.word_and_code.ensures)
