use Rattle.std.proofs.Common.{◌∙◌, sym}
use Rattle.bdb_tool_ask.proofs.AnswerLemmas.{data_found, no_data}
use Rattle.bdb_tool_ask.proofs.looking.listed_data.Goals as goal

pub returns-in_ok-find-in-Some : goal.returns-in_ok-find-in-Some
returns-in_ok-find-in-Some c = c.in_ok-find-in-Some.ensures ∙ sym (data_found _ _ _ _ (sym c.in-Some.ensures.place) c.in-Some.ensures.inside)

pub returns-in-None : goal.returns-in-None
returns-in-None c = sym (no_data _ _ _ (sym c.in-None.ensures.place))
