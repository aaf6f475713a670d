use Rattle.bdb_repair.specs.of_rescue.Text.{salvage_text}
use Rattle.bdb_tool_ask.proofs.of_tool_lines.FinishLemmas.{written_finishes}
use Rattle.bdb_tool.proofs.BuiltLemmas.{known_as, known_memory}
use Rattle.bdb_tool.proofs.salvaging.answer_salvaged.Goals as goal

pub returns-in-Together-clause-answer : goal.returns-in-Together-clause-answer
returns-in-Together-clause-answer g c =
    rw c.in-Together.is
    (written_finishes (salvage_text c.in-Together.print c.args.salvaged.now.guess c.args.salvaged.now.image) _ _ _ _ c.write_salvaged.ensures c.report.ensures)

pub returns-in-Ok-clause-answer : goal.returns-in-Ok-clause-answer
returns-in-Ok-clause-answer g c =
    rw c.in-Extract.is (known_as c.in-Extract.extract c.in-Ok.apart c.args.salvaged.now _ _ _ c.in-Ok.ensures.apart c.answer_known.ensures)

pub returns-in-Err-clause-answer : goal.returns-in-Err-clause-answer
returns-in-Err-clause-answer g c = rw c.in-Extract.is (known_memory c.in-Extract.extract c.args.salvaged.now _ _ _ _ c.tell_memory.ensures)
