use Rattle.std.proofs.Common.{◌≡◌, ◌∙◌, string_bytes, codes}
use Rattle.std.proofs.lemmas.Result.{IfOk-weaker}
use Rattle.bdb_tool_ask.specs.Figures.{other_figures}
use Rattle.bdb_tool_ask.proofs.FigureLemmas.{four_lines, four_written}
use Rattle.bdb_tool_ask.proofs.stating.other_figures.Goals as goal

pub returns : goal.returns
returns c =
    IfOk-weaker c.format.result
    (λ text. string_bytes text ≡ four_written (codes "hash") (codes "overflow") (codes "free") (codes "reserve") c.args.stat.now.hash c.args.stat.now.overflow
    c.args.stat.now.free c.args.stat.now.reserve)
    (λ text. string_bytes text ≡ other_figures c.args.stat.now)
    (λ text written. written ∙ four_lines (codes "hash") (codes "overflow") (codes "free") (codes "reserve") c.args.stat.now.hash c.args.stat.now.overflow
    c.args.stat.now.free c.args.stat.now.reserve) c.format.ensures.ok
