use Rattle.bdb_law_again.proofs.AgainLemmas.{apart_loads_again}
use Rattle.bdb_law_again.proofs.laws.apart_loads_again.Goals as goal

pub returns : goal.returns
returns c = apart_loads_again
