use Rattle.bdb_tool_ask.proofs.of_tool_lines.FinishLemmas.{written_finishes}
use Rattle.bdb_tool.proofs.RepairLemmas.{told_as, why_told}
use Rattle.bdb_tool.proofs.repairing.answer_built.Goals as goal

pub returns-in-Ok : goal.returns-in-Ok
returns-in-Ok g c =
    told_as c.args.limit _ _ _ _ _ c.in-Ok.is
    (written_finishes c.in-Ok.built _ _ _ _ (rw c.bytes.ensures at c.put.ensures) c.report.ensures)

pub returns-in-Err : goal.returns-in-Err
returns-in-Err g c =
    told_as c.args.limit _ _ _ _ _ c.in-Err.is (why_told c.args.limit c.in-Err.error _ _ _ _ c.tell_unbuilt.ensures)
