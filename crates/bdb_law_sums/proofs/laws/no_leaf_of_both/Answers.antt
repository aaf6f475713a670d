-- The lemma says it.
use Rattle.bdb_law_sums.proofs.RecordLemmas.{no_leaf_of_both}
use Rattle.bdb_law_sums.proofs.laws.no_leaf_of_both.Goals as goal

pub returns : goal.returns
returns c = no_leaf_of_both
