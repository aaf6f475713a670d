use Rattle.std.proofs.Common.{◌∙◌}
use Rattle.bdb_tool_dump.proofs.of_tool_lines.FinishLemmas.{same_text}
use Rattle.bdb_tool_ask.proofs.FigureLemmas.{stat_lines}
use Rattle.bdb_tool_ask.proofs.stating.print_figures.Goals as goal

pub returns-in-Ok-figures_text : goal.returns-in-Ok-figures_text
returns-in-Ok-figures_text g c =
    same_text _ _ _ _
    (c.as_bytes.ensures.value ∙ c.in-Ok-figures_text.ensures ∙ stat_lines _ _ c.in-Ok.figures c.linked-linked.ensures.pages c.in-Ok.ensures) c.put.ensures
