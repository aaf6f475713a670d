use Rattle.bdb_tool_build.proofs.LoadLemmas.{fault_refused}
use Rattle.bdb_tool_build.proofs.loading.sections_of.Goals as goal

pub returns-in-Err-Fault-clause-refused : goal.returns-in-Err-Fault-clause-refused
returns-in-Err-Fault-clause-refused c = fault_refused c.args.text _ _ (rw (c.bytes.ensures, c.in-Err-Fault.field-0-is) at c.in-Err-Fault.ensures.err)
    (c.faulty.ensures _ c.reason_line.ensures)
