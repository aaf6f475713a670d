use Rattle.bdb_file.specs.of_any_order.AnyOrder.{faults_by_rows}
use Rattle.bdb_tool_words.specs.Commands.{ListAll}
use Rattle.bdb_tool_ask.proofs.AnswerLemmas.{readable_finishes, refused_finishes}
use Rattle.bdb_tool_dump.proofs.of_tool_lines.FinishLemmas.{written_finishes}
use Rattle.bdb_tool_ask.proofs.reading.answer_list.Goals as goal

pub returns-in-Ok : goal.returns-in-Ok
returns-in-Ok g c =
    readable_finishes c.args.rows c.args.image.now c.in-Ok.readable ListAll _ _ _ (written_finishes _ _ _ _ _ c.write_list.ensures c.report.ensures)
    c.in-Ok.ensures.accepted c.in-Ok.ensures.readable

pub returns-in-Err : goal.returns-in-Err
returns-in-Err g c =
    refused_finishes (faults_by_rows c.args.rows c.args.image.now) c.in-Err.error ListAll c.args.image.now _ _ _ _ c.in-Err.ensures.refusal c.refuse.ensures
