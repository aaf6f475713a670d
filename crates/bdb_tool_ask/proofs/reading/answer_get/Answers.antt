use Rattle.bdb_file.specs.of_any_order.AnyOrder.{faults_by_rows}
use Rattle.bdb_tool_words.specs.Commands.{Get}
use Rattle.bdb_tool_ask.proofs.AnswerLemmas.{readable_finishes, refused_finishes}
use Rattle.bdb_tool_ask.proofs.reading.answer_get.Goals as goal

pub returns-in-Ok : goal.returns-in-Ok
returns-in-Ok g c = λ name key is spelled.
    readable_finishes c.args.rows c.args.image.now c.in-Ok.readable (Get name key c.args.lookup.now.print) _ _ _
    (c.answer_sought.ensures name key is spelled) c.in-Ok.ensures.accepted c.in-Ok.ensures.readable

pub returns-in-Err : goal.returns-in-Err
returns-in-Err g c = λ name key is spelled.
    refused_finishes (faults_by_rows c.args.rows c.args.image.now) c.in-Err.error (Get name key c.args.lookup.now.print) c.args.image.now _ _ _ _
    c.in-Err.ensures.refusal c.refuse.ensures
