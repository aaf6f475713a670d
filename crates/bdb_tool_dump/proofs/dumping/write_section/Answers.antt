use Rattle.std.proofs.Common.{rules}
use Rattle.bdb_tool_print.proofs.PrinterLemmas.{all_written}
use Rattle.bdb_tool_dump.proofs.dumping.write_section.Goals as goal

pub returns : goal.returns
returns g c = all_written _ _ _ _ _ _ _ _ _ (search rules) (search rules) c.in_ok-database_section.was c.database_section.ensures c.print_to-2.ensures.prints
    c.print_to-2.ensures.empty
