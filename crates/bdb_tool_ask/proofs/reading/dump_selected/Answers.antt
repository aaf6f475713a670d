use Rattle.bdb_tool_ask.proofs.AnswerLemmas.{all_finishes}
use Rattle.bdb_tool_ask.proofs.reading.dump_selected.Goals as goal

pub returns-in-None : goal.returns-in-None
returns-in-None g c = λ name is. all_finishes _ _ _ name _ _ _ _ (rw c.in-None.is at c.in-Ok.ensures) is c.write_sections.ensures c.report.ensures
