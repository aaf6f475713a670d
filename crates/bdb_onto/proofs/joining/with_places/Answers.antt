use Rattle.std.proofs.Common.{◌≡◌, ◌++◌, [], sym, ◌∙◌, ap, map, reverse, length}
use Rattle.bdb_mkfile.proofs.of_settle.SettlingLemmas.{none_left}
use Rattle.bdb_onto.specs.Joining.{place_placed, placed_section}
use Rattle.bdb_onto.proofs.JoiningLemmas.{no_places}
use Rattle.bdb_onto.proofs.joining.with_places.Goals as goal

pub returns-clause-sections : goal.returns-clause-sections
returns-clause-sections c =
    let empty : c.loop-section.sections ≡ [] = none_left c.loop-section.sections (sym c.pop.ensures.last ∙ c.in_default.is) in
    ap (map placed_section) c.reverse.ensures.items
    ∙ sym (c.loop-section.invariant.sections ∙ ap (λ sections. sections ++ map placed_section (reverse c.loop-section.all.items)) empty)

pub returns-clause-places : goal.returns-clause-places
returns-clause-places c =
    let empty : c.loop-section.sections ≡ [] = none_left c.loop-section.sections (sym c.pop.ensures.last ∙ c.in_default.is) in
    let none : c.loop-section.places.items ≡ [] = no_places c.loop-section.places.items (c.loop-section.invariant.same ∙ ap length empty) in
    ap (map place_placed) c.reverse.ensures.items
    ∙ sym (c.loop-section.invariant.places ∙ ap (λ places. places ++ map place_placed (reverse c.loop-section.all.items)) none)
