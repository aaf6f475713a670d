use Rattle.std.proofs.Common.{◌∙◌, ap, sym}
use Rattle.bdb_graph.proofs.of_form.EndLemmas.{end_of_leaf_item, has_rows, leaves_placed}
use Rattle.bdb_graph.specs.of_format.Terms.{first_row}
use Rattle.bdb_law_turned.proofs.laid.EntryLeafKindLaidKind.are_laid.Goals as goal

pub returns-clause-placed : goal.returns-clause-placed
returns-clause-placed g c =
    leaves_placed g.E.Entries.page_type c.args._order c.args._page.now (g.E.Entries.have_items c.args._order c.args._page.now) c.requires

pub returns-clause-ends : goal.returns-clause-ends
returns-clause-ends g c =
    λ i lt. end_of_leaf_item c.args._order c.args._page.now i
    (sym (ap first_row (g.E.Entries.have_items c.args._order c.args._page.now i))
    ∙ has_rows c.args._order c.args._page.now g.E.Entries.page_type c.requires i lt)
