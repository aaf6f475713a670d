use Rattle.bdb_pack.proofs.StoredLemmas.{stored_values_stand}
use Rattle.bdb_pack.proofs.laws.stored_values_stand.Goals as goal

pub returns : goal.returns
returns c = stored_values_stand
