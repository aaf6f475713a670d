use Rattle.bdb_law_levels.proofs.ContentLemmas.{counts_of_records}
use Rattle.bdb_law_levels.proofs.laws.counts_of_records.Goals as goal

pub returns : goal.returns
returns c = counts_of_records
