use Rattle.bdb_graph.proofs.of_form.EndLemmas.{recnos_placed}
use Rattle.bdb_law_turned.proofs.laid.RecnoInternalKindLaidKind.are_laid.Goals as goal

pub returns-clause-placed : goal.returns-clause-placed
returns-clause-placed c = recnos_placed c.args._order c.args._page.now c.requires
