use Rattle.std.proofs.Common.{◌≡◌, ◌∙◌, arith}
use Rattle.bdb_need.specs.TreePages.{unlined_pairs}
use Rattle.bdb_mkfile.proofs.NamedMasterLemmas.{entries_counted, entries_listed}
use Rattle.bdb_mkfile.proofs.master.names_pages.Goals as goal

pub tree_pages-requires-clause-list : goal.tree_pages-requires-clause-list
tree_pages-requires-clause-list c =
    entries_listed c.args.settings.now (unlined_pairs c.in_ok-entries.entries) 0 c.args.sections.now c.requires.master c.requires.named
    c.in_ok-entries.ensures

pub returns-in-Ok : goal.returns-in-Ok
returns-in-Ok c =
    (let same : c.in-Ok.pages ≡ c.in_ok-pages.pages = grind (arith, c.in-Ok.ensures) in same)
    ∙ (c.in_ok-pages.ensures.pages
    ∙ entries_counted c.args.settings.now (unlined_pairs c.in_ok-entries.entries) 0 c.args.sections.now c.requires.master c.in_ok-entries.ensures)
