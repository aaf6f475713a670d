use Rattle.bdb_tool_lines.proofs.LineLemmas.{case_line_printed}
use Rattle.bdb_tool_lines.proofs.printer.Printer.unsupported.Goals as goal

pub returns-clause-passes : goal.returns-clause-passes
returns-clause-passes g c case is =
    case_line_printed g.K.Sink.written g.K.Sink.faults c.args.self.now c.case_parts.new.self case c.args.name.now c.args.page c.case_parts.result is
    c.case_parts.ensures.passes
