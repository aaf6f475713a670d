use Rattle.bdb_law_homes.proofs.OneLemmas.{leaves_are_of_one}
use Rattle.bdb_law_homes.proofs.laws.leaves_are_of_one.Goals as goal

pub returns : goal.returns
returns c = leaves_are_of_one
