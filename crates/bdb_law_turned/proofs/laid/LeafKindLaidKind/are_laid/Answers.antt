use Rattle.std.proofs.Common.{refl}
use Rattle.bdb_graph.proofs.of_form.EndLemmas.{end_of_leaf_item, has_rows, leaves_placed}
use Rattle.bdb_graph.specs.of_format.declared.pages.PageType.TheVariants.{Leaf as LeafPage}
use Rattle.bdb_law_turned.proofs.laid.LeafKindLaidKind.are_laid.Goals as goal

pub returns-clause-placed : goal.returns-clause-placed
returns-clause-placed c = leaves_placed LeafPage c.args._order c.args._page.now (λ i. refl) c.requires

pub returns-clause-ends : goal.returns-clause-ends
returns-clause-ends c =
    λ i lt. end_of_leaf_item c.args._order c.args._page.now i (has_rows c.args._order c.args._page.now LeafPage c.requires i lt)
