use Rattle.std.proofs.Common.{sym, ◌∙◌}
use Rattle.bdb_apart.proofs.KnownLemmas.{known_at, next_found}
use Rattle.bdb_apart.proofs.database.DatabasesIterator.next.Goals as goal

pub invariant_of-result : goal.invariant_of-result
invariant_of-result c =
    known_at c.self.inside.apart.now c.places.result.now c.self.inside.at c.in_ok-place.place.now c.places.ensures c.in_ok-place.ensures.lookup.3.0
    c.in_ok-place.ensures.lookup.1

pub returns-clause-steps : goal.returns-clause-steps
returns-clause-steps c =
    sym c.self.view_is
    ∙ next_found c.self.inside.apart.now c.places.result.now c.self.inside.at c.in_ok-place.place.now c.places.ensures c.in_ok-place.ensures.lookup.3.0
    c.in_ok-place.ensures.lookup.1
