use Rattle.std.proofs.Common.{◌∙◌, ap, map}
use Rattle.bdb_mkfile.specs.of_settle.Loaded.{filled_section, loaded_section}
use Rattle.bdb_mkfile.proofs.of_settle.FillingLemmas.{sections_filled}
use Rattle.bdb_onto.proofs.OntoLemmas.{loadable_onto, settled_onto}
use Rattle.bdb_onto.proofs.SearchLemmas.{has_names}
use Rattle.bdb_onto.proofs.onto.settle_onto.Goals as goal

pub join-requires-clause-names : goal.join-requires-clause-names
join-requires-clause-names c = has_names c.args.base c.requires.base

pub returns-clause-lists : goal.returns-clause-lists
returns-clause-lists c =
    c.in_ok-in_name_order.ensures
    ∙ settled_onto c.args.base c.args.sections c.in_ok-settled.settled
    (loadable_onto c.args.base c.args.sections c.requires.base c.requires.fit c.in_ok-joined.ensures.sound)
    (c.in_ok-settled.ensures ∙ ap (map filled_section) c.in_ok-ordered.ensures ∙ sections_filled c.in_ok-joined.joined
    ∙ ap (map loaded_section) c.in_ok-joined.ensures.joined)
