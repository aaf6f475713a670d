use Rattle.bdb_pack.proofs.FormLemmas.{begun_is_formed}
use Rattle.bdb_pack.proofs.laws.begun_is_formed.Goals as goal

pub returns : goal.returns
returns c = begun_is_formed
