use Rattle.bdb_law_homes.proofs.StartLemmas.{starts_are_counts}
use Rattle.bdb_law_homes.proofs.laws.starts_are_counts.Goals as goal

pub returns : goal.returns
returns c = starts_are_counts
