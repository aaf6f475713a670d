use Rattle.std.proofs.Common.{◌≡◌, ◌++◌, [], sym, ◌∙◌, ap, map, reverse}
use Rattle.bdb_settle.specs.Passes.{after_pass}
use Rattle.bdb_settle.proofs.SettlingLemmas.{none_left, turned_back}
use Rattle.bdb_settle.proofs.sections.pass_backward.Goals as goal

pub returns : goal.returns
returns c =
    let empty : c.loop-section.sections ≡ [] = none_left c.loop-section.sections (sym c.pop.ensures.last ∙ c.in_default.is) in
    turned_back (map (after_pass c.args.pass) c.args.sections) c.loop-section.all.items
    (c.loop-section.invariant ∙ ap (λ sections. map (after_pass c.args.pass) sections ++ reverse c.loop-section.all.items) empty)
