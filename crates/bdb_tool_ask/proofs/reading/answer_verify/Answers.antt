use Rattle.bdb_file.specs.of_any_order.AnyOrder.{faults_by_rows}
use Rattle.bdb_tool_dump.proofs.of_tool_lines.FinishLemmas.{written_finishes}
use Rattle.bdb_tool_ask.proofs.TellingLemmas.{all_finish, sound_verified}
use Rattle.bdb_tool_ask.proofs.reading.answer_verify.Goals as goal

pub returns-in-Ok : goal.returns-in-Ok
returns-in-Ok g c =
    sound_verified (faults_by_rows c.args.rows c.args.image.now) c.in-Ok.readable c.args.image.now _ _ _ c.in-Ok.ensures.accepted c.in-Ok.ensures.readable
    (written_finishes _ _ _ _ _ c.print_sound.ensures c.report.ensures)

pub returns-in-Err-Faults : goal.returns-in-Err-Faults
returns-in-Err-Faults g c =
    all_finish (faults_by_rows c.args.rows c.args.image.now) c.args.image.now c.in-Err-Faults.field-0 c.in-Err-Faults.all _ _ _ _ c.in-Err-Faults.field-0-is
    c.in-Err-Faults.ensures.refusal c.tell_list.ensures
