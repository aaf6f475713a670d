use Rattle.bdb_file.specs.of_any_order.AnyOrder.{faults_by_rows}
use Rattle.bdb_tool_words.specs.Commands.{Dump}
use Rattle.bdb_tool_ask.proofs.AnswerLemmas.{readable_finishes, refused_finishes}
use Rattle.bdb_tool_ask.proofs.reading.answer_dump.Goals as goal

pub returns-in-Ok : goal.returns-in-Ok
returns-in-Ok g c = λ name is.
    readable_finishes c.args.rows c.args.image.now c.in-Ok.readable (Dump name c.args.selection.now.print) _ _ _ (c.dump_selected.ensures name is)
    c.in-Ok.ensures.accepted c.in-Ok.ensures.readable

pub returns-in-Err : goal.returns-in-Err
returns-in-Err g c = λ name is.
    refused_finishes (faults_by_rows c.args.rows c.args.image.now) c.in-Err.error (Dump name c.args.selection.now.print) c.args.image.now _ _ _ _
    c.in-Err.ensures.refusal c.refuse.ensures
