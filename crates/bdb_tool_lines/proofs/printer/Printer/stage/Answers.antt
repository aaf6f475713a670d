use Rattle.std.proofs.Common.{sym}
use Rattle.bdb_tool_lines.specs.Telling.{stage_part}
use Rattle.bdb_tool_lines.proofs.printer.Printer.stage.Goals as goal

pub returns-clause-passes : goal.returns-clause-passes
unfolding stage_part
returns-clause-passes g c = rw (sym c.from.ensures) c.number.ensures.passes
