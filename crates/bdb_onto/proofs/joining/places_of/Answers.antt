use Rattle.std.proofs.Common.{◌≡◌, ◌++◌, [], Some, sym, ◌∙◌, ap, map, reverse}
use Rattle.bdb_mkfile.proofs.of_settle.SettlingLemmas.{none_left}
use Rattle.bdb_onto.proofs.joining.places_of.Goals as goal

pub returns : goal.returns
returns c =
    let empty : c.loop-database.databases ≡ [] = none_left c.loop-database.databases (sym c.pop.ensures.last ∙ c.in_default.is) in
    c.reverse.ensures.items
    ∙ sym (c.loop-database.invariant ∙ ap (λ databases. map Some databases ++ reverse c.loop-database.all.items) empty)
