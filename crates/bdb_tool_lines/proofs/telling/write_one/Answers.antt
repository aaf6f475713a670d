use Rattle.std.proofs.Common.{rules}
use Rattle.bdb_tool_lines.proofs.PassingLemmas.{all_written}
use Rattle.bdb_tool_lines.proofs.telling.write_one.Goals as goal

pub returns-clause-lines : goal.returns-clause-lines
returns-clause-lines g c = all_written _ _ _ _ _ _ _ _ _ (search rules) c.requires c.in_ok-line.was c.line.ensures.passes c.flush.ensures.passes
    c.flush.ensures.empty
