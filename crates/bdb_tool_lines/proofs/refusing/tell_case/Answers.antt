use Rattle.std.proofs.Common.{◌∙◌, ap}
use Rattle.bdb_faults.specs.of_format.Terms.{judgement_seen}
use Rattle.bdb_tool_lines.proofs.RefusalLemmas.{case_told}
use Rattle.bdb_tool_lines.proofs.refusing.tell_case.Goals as goal

pub returns : goal.returns
returns g c = case_told _ c.args.case _ _ (ap judgement_seen c.at.ensures ∙ c.case_row.ensures 0) c.tell_named.ensures
