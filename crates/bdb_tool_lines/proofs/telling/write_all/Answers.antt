use Rattle.std.proofs.Common.{rules}
use Rattle.bdb_tool_lines.proofs.PassingLemmas.{all_written}
use Rattle.bdb_tool_lines.proofs.telling.write_all.Goals as goal

pub returns-clause-lines : goal.returns-clause-lines
returns-clause-lines g c = all_written _ _ _ _ _ _ _ _ _ (search rules) c.requires c.in_ok-print_all.was c.print_all.ensures.passes c.flush.ensures.passes
    c.flush.ensures.empty
