use Rattle.bdb_tool_build.specs.Loads.{IsErrorAnswer}
use Rattle.bdb_tool_build.proofs.LoadLemmas.{of_line}
use Rattle.bdb_tool_build.proofs.RefusalLemmas.{says_allowed}
use Rattle.bdb_tool_build.proofs.loading.refusal_of.Goals as goal

pub returns-in-RecordTooLong : goal.returns-in-RecordTooLong
returns-in-RecordTooLong c =
    says_allowed (IsErrorAnswer c.args.limit c.args.error) _ c.faulty.result (c.faulty.ensures _ c.error_line.ensures)
    (of_line c.args.limit c.args.error c.in-RecordTooLong.is)
