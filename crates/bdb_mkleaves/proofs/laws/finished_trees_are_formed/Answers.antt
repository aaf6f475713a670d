use Rattle.bdb_mkleaves.proofs.KeptLemmas.{finished_trees_are_formed}
use Rattle.bdb_mkleaves.proofs.laws.finished_trees_are_formed.Goals as goal

pub returns : goal.returns
returns c = finished_trees_are_formed
