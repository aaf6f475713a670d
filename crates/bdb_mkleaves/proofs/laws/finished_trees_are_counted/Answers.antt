use Rattle.bdb_mkleaves.proofs.TreeCountLemmas.{finished_trees_are_counted}
use Rattle.bdb_mkleaves.proofs.laws.finished_trees_are_counted.Goals as goal

pub returns : goal.returns
returns c = finished_trees_are_counted
