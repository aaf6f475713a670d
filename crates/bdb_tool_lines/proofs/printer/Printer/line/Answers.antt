use Rattle.std.proofs.Common.{◌∙◌}
use Rattle.bdb_faults.specs.of_format.Terms.{fault_seen, judgement_seen}
use Rattle.bdb_model.specs.Answers.{unsupported_line}
use Rattle.bdb_tool_lines.specs.Telling.{judgement_line}
use Rattle.bdb_tool_lines.proofs.LineLemmas.{case_told}
use Rattle.bdb_tool_lines.proofs.PassingLemmas.{same_text}
use Rattle.bdb_tool_lines.proofs.printer.Printer.line.Goals as goal

-- the case that the row is has the name that the table tells
pub returns-in-Some-clause-passes : goal.returns-in-Some-clause-passes
returns-in-Some-clause-passes g c =
    let named = c.in-Some.field-0 in
    same_text g.K.Sink.written g.K.Sink.faults c.args.self.now c.unsupported.new.self (unsupported_line named c.args.named.page)
    (judgement_line (judgement_seen c.args.named)) c.unsupported.result
    (case_told (fault_seen c.args.named) c.entry-entry.result.case named c.in-Some.is (c.entry-entry.ensures.case c.args.named.page))
    (c.unsupported.ensures.passes named (c.as_bytes.ensures.value ∙ c.entry-entry.ensures.left_out named c.in-Some.is))
