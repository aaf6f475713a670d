use Rattle.bdb_law_homes.proofs.BucketLemmas.{buckets_are_of_tables}
use Rattle.bdb_law_homes.proofs.laws.buckets_are_of_tables.Goals as goal

pub returns : goal.returns
returns c = buckets_are_of_tables
