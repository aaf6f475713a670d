use Rattle.std.proofs.Common.{rules}
use Rattle.bdb_ranks.proofs.RankLemmas.{sorted_by}
use Rattle.bdb_ranks.proofs.ranking.sort_chains.Goals as goal

-- Each comparison answers by the order of values.
pub returns-clause-sorted : goal.returns-clause-sorted
returns-clause-sorted c = sorted_by _ c.sort_unstable_by.ensures.sorted (λ a r q k. search rules)
