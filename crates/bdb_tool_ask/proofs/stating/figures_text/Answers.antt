use Rattle.std.proofs.Common.{◌≡◌, ◌∙◌, ◌++◌, refl, string_bytes}
use Rattle.std.proofs.lemmas.Result.{IfOk-weaker}
use Rattle.bdb_tool_ask.specs.Figures.{figures_text}
use Rattle.bdb_tool_ask.proofs.stating.figures_text.Goals as goal

pub returns : goal.returns
returns c =
    IfOk-weaker c.format.result
    (λ text. string_bytes text ≡ string_bytes c.in_ok-trees.trees ++ (string_bytes c.in_ok-others.others ++ string_bytes c.in_ok-last.last))
    (λ text. string_bytes text ≡ figures_text c.args.stat.now)
    (λ text written. written ∙ rw (c.in_ok-trees.ensures, c.in_ok-others.ensures, c.in_ok-last.ensures) refl) c.format.ensures.ok
