use Rattle.bdb_law_apart.proofs.ListLemmas.{given_lists_load}
use Rattle.bdb_law_apart.proofs.laws.given_lists_load.Goals as goal

pub returns : goal.returns
returns c = given_lists_load
