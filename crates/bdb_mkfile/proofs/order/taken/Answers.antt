use Rattle.std.proofs.Common.{◌≡◌, ◌++◌, [], sym, ◌∙◌, ap, reverse}
use Rattle.bdb_need.proofs.of_settle.SettlingLemmas.{none_left}
use Rattle.bdb_mkfile.proofs.order.taken.Goals as goal

pub returns : goal.returns
returns c =
    let empty : c.loop-section.sections ≡ [] = none_left c.loop-section.sections (sym c.pop.ensures.last ∙ c.in_default.is) in
    c.reverse.ensures.items ∙ sym (c.loop-section.invariant ∙ ap (λ sections. sections ++ reverse c.loop-section.all.items) empty)
