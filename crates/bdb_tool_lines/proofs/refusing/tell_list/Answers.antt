use Rattle.std.proofs.Common.{inl}
use Rattle.bdb_model.specs.Change.{change}
use Rattle.bdb_tool_lines.specs.Telling.{faults_text, first_status}
use Rattle.bdb_tool_lines.proofs.RefusalLemmas.{list_not_write_fault, told_in_part}
use Rattle.bdb_tool_lines.proofs.refusing.tell_list.Goals as goal

-- the lines were cut off
pub returns : goal.returns
returns g c =
    inl (told_in_part (faults_text c.args.all.now) (first_status c.args.all.now)
    (change g.E.Sink.written g.E.Sink.faults c.args.err.now c.tell_all.new.out) c.tell_all.result c.in-Err.field-0
    c.in-Err.is c.in-Err.ensures.cause (list_not_write_fault c.args.all.now) c.tell_all.ensures.lines)
