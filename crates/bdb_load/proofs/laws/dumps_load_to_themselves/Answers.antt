use Rattle.bdb_load.proofs.AgainLemmas.{dumps_load_to_themselves}
use Rattle.bdb_load.proofs.laws.dumps_load_to_themselves.Goals as goal

pub returns : goal.returns
returns c = dumps_load_to_themselves
