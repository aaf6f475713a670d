use Rattle.bdb_tool_ask.proofs.AnswerLemmas.{found_finishes, none_found}
use Rattle.bdb_tool_ask.proofs.looking.answer_found.Goals as goal

pub returns-in-Some : goal.returns-in-Some
returns-in-Some g c = found_finishes _ _ _ _ _ _ _ _ c.in-Some.ensures.steps c.write_found.ensures c.report.ensures

pub returns-in-None : goal.returns-in-None
returns-in-None g c = none_found _ _ _ _ _ _ c.in-None.ensures.steps.0 c.tell.ensures
