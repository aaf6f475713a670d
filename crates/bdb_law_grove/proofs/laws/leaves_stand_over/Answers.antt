use Rattle.bdb_law_grove.proofs.LeafLemmas.{leaves_stand_over}
use Rattle.bdb_law_grove.proofs.laws.leaves_stand_over.Goals as goal

pub returns : goal.returns
returns c = leaves_stand_over
