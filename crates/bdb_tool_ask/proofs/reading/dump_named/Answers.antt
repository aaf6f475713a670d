use Rattle.std.proofs.Common.{sym}
use Rattle.bdb_tool_ask.proofs.AnswerLemmas.{no_section, section_finishes}
use Rattle.bdb_tool_ask.proofs.reading.dump_named.Goals as goal

pub returns-in-Some : goal.returns-in-Some
returns-in-Some g c =
    section_finishes _ _ _ _ _ _ _ _ (sym c.in-Some.ensures.place) c.in-Some.ensures.inside c.write_section.ensures c.report.ensures

pub returns-in-None : goal.returns-in-None
returns-in-None g c = no_section _ _ _ _ _ _ _ (sym c.in-None.ensures.place) c.tell.ensures
