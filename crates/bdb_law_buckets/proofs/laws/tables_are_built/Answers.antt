use Rattle.bdb_law_buckets.proofs.UnsortedLemmas.{tables_are_built as law}
use Rattle.bdb_law_buckets.proofs.laws.tables_are_built.Goals as goal

pub returns : goal.returns
returns c = law
