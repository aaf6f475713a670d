use Rattle.bdb_law_apart.proofs.DatabaseLemmas.{databases_are_found}
use Rattle.bdb_law_apart.proofs.laws.databases_are_found.Goals as goal

pub returns : goal.returns
returns c = databases_are_found
