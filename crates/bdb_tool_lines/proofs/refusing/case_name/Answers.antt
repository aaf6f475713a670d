use Rattle.std.proofs.Common.{◌∙◌}
use Rattle.bdb_tool_lines.proofs.RefusalLemmas.{case_is}
use Rattle.bdb_tool_lines.proofs.refusing.case_name.Goals as goal

pub returns : goal.returns
returns c = c.entry.ensures.left_out c.args.case (case_is _ _ c.args.case 0 (c.entry.ensures.case 0 ∙ c.case_row.ensures 0))
