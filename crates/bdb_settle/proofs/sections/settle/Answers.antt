-- Lists that are made first and filled up then are those that are loaded.
use Rattle.std.proofs.Common.{◌∙◌, ap, map}
use Rattle.bdb_settle.specs.Loaded.{filled_section}
use Rattle.bdb_settle.proofs.FillingLemmas.{sections_filled}
use Rattle.bdb_settle.proofs.sections.settle.Goals as goal

pub returns-clause-lists : goal.returns-clause-lists
returns-clause-lists c =
    c.in_ok-filled.ensures ∙ ap (map filled_section) c.in_ok-ordered.ensures ∙ sections_filled c.args.sections
