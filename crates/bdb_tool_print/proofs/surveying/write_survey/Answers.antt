use Rattle.std.proofs.Common.{rules}
use Rattle.bdb_tool_print.proofs.PrinterLemmas.{all_written}
use Rattle.bdb_tool_print.proofs.surveying.write_survey.Goals as goal

pub returns : goal.returns
returns g c = all_written _ _ _ _ _ _ _ _ _ (search rules) c.new-pending.ensures c.in_ok-survey.was c.survey.ensures c.flush.ensures.prints c.flush.ensures.empty
