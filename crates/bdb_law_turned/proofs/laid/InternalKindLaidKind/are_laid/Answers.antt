use Rattle.bdb_graph.proofs.of_form.EndLemmas.{end_of_internal_item, has_rows, internals_placed}
use Rattle.bdb_graph.specs.of_format.declared.pages.PageType.TheVariants.{Internal as InternalPage}
use Rattle.bdb_law_turned.proofs.laid.InternalKindLaidKind.are_laid.Goals as goal

pub returns-clause-placed : goal.returns-clause-placed
returns-clause-placed c = internals_placed c.args._order c.args._page.now c.requires

pub returns-clause-ends : goal.returns-clause-ends
returns-clause-ends c =
    λ i lt. end_of_internal_item c.args._order c.args._page.now i (has_rows c.args._order c.args._page.now InternalPage c.requires i lt)
