use Rattle.std.proofs.Common.{rules}
use Rattle.bdb_tool_print.proofs.PrinterLemmas.{all_written}
use Rattle.bdb_tool_dump.proofs.dumping.write_sections.Goals as goal

pub returns : goal.returns
returns g c = all_written _ _ _ _ _ _ _ _ _ (search rules) (search rules) c.in_ok-sections.was c.sections.ensures c.print_to-2.ensures.prints
    c.print_to-2.ensures.empty
