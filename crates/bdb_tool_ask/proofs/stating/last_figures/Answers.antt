use Rattle.std.proofs.Common.{◌≡◌, ◌∙◌, string_bytes, codes}
use Rattle.std.proofs.lemmas.Result.{IfOk-weaker}
use Rattle.bdb_tool_ask.specs.Figures.{last_figures}
use Rattle.bdb_tool_ask.proofs.FigureLemmas.{four_lines, four_written}
use Rattle.bdb_tool_ask.proofs.stating.last_figures.Goals as goal

pub returns : goal.returns
returns c =
    IfOk-weaker c.format.result
    (λ text. string_bytes text ≡ four_written (codes "queue") (codes "tail") (codes "levels") (codes "unused") c.args.stat.now.queue c.args.stat.now.tail
    c.args.stat.now.levels c.args.stat.now.unused)
    (λ text. string_bytes text ≡ last_figures c.args.stat.now)
    (λ text written. written ∙ four_lines (codes "queue") (codes "tail") (codes "levels") (codes "unused") c.args.stat.now.queue c.args.stat.now.tail
    c.args.stat.now.levels c.args.stat.now.unused) c.format.ensures.ok
