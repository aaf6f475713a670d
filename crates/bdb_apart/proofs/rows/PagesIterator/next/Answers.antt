use Rattle.bdb_apart.proofs.RowLemmas.{at_next}
use Rattle.bdb_apart.proofs.rows.PagesIterator.next.Goals as goal

pub invariant_of-self : goal.invariant_of-self
invariant_of-self c =
    at_next c.self.inside.above.now c.self.inside.next.now c.self.inside.meta c.in_ok-page.page c.self.inside.at c.in_ok-page.was c.self.invariant
