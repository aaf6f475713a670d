use Rattle.std.proofs.Common.{rules}
use Rattle.bdb_hash_list.proofs.PlaceLemmas.{sorted_by}
use Rattle.bdb_hash_list.proofs.ranking.sort_places.Goals as goal

-- Each comparison answers by the order of places.
pub returns-clause-sorted : goal.returns-clause-sorted
returns-clause-sorted c = sorted_by c.args.forest.now _ c.sort_unstable_by.ensures.sorted (λ a r q k. search rules)
