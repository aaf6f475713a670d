use Rattle.std.proofs.Common.{◌≡◌, ◌++◌, [], sym, ◌∙◌, ap, reverse}
use Rattle.bdb_onto.proofs.of_mkfile.Common.{none_left}
use Rattle.bdb_tool_build.proofs.onto.backward.Goals as goal

pub returns : goal.returns
returns c =
    let empty : c.loop-section.sections ≡ [] = none_left c.loop-section.sections (sym c.pop.ensures.last ∙ c.in_default.is) in
    sym (c.loop-section.invariant ∙ ap (λ sections. sections ++ reverse c.loop-section.all.items) empty)
