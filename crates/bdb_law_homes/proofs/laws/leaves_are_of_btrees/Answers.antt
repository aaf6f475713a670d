use Rattle.bdb_law_homes.proofs.TreeLemmas.{leaves_are_of_btrees}
use Rattle.bdb_law_homes.proofs.laws.leaves_are_of_btrees.Goals as goal

pub returns : goal.returns
returns c = leaves_are_of_btrees
