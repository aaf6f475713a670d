use Rattle.bdb_tool_ask.proofs.of_tool_lines.FinishLemmas.{written_finishes}
use Rattle.bdb_tool.proofs.BuiltLemmas.{refusal_told}
use Rattle.bdb_tool.proofs.building.answer_built.Goals as goal

pub returns-in-Ok : goal.returns-in-Ok
returns-in-Ok g c = rw c.in-Ok.is (written_finishes c.in-Ok.image _ _ _ _ (rw c.bytes.ensures at c.put.ensures) c.report.ensures)

pub returns-in-Err : goal.returns-in-Err
returns-in-Err g c = rw c.in-Err.is (refusal_told c.in-Err.refusal _ _ _ _ c.tell_refusal.ensures)
