-- The lemma says it.
use Rattle.bdb_repair.proofs.ReadLemmas.{salvage_is_read}
use Rattle.bdb_repair.proofs.laws.salvage_is_read.Goals as goal

pub returns : goal.returns
returns c = salvage_is_read
