use Rattle.std.proofs.Common.{◌≡◌, ◌∙◌, string_bytes, codes}
use Rattle.std.proofs.lemmas.Result.{IfOk-weaker}
use Rattle.bdb_tool_ask.specs.Figures.{tree_figures}
use Rattle.bdb_tool_ask.proofs.FigureLemmas.{four_lines, four_written}
use Rattle.bdb_tool_ask.proofs.stating.tree_figures.Goals as goal

pub returns : goal.returns
returns c =
    IfOk-weaker c.format.result
    (λ text. string_bytes text ≡ four_written (codes "pages") (codes "meta") (codes "internal") (codes "leaf") c.args.stat.now.pages c.args.stat.now.meta
    c.args.stat.now.internal c.args.stat.now.leaf)
    (λ text. string_bytes text ≡ tree_figures c.args.stat.now)
    (λ text written. written ∙ four_lines (codes "pages") (codes "meta") (codes "internal") (codes "leaf") c.args.stat.now.pages c.args.stat.now.meta
    c.args.stat.now.internal c.args.stat.now.leaf) c.format.ensures.ok
