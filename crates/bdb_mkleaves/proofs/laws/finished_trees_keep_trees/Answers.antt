use Rattle.bdb_mkleaves.proofs.LayoutLemmas.{finished_trees_keep_trees}
use Rattle.bdb_mkleaves.proofs.laws.finished_trees_keep_trees.Goals as goal

pub returns : goal.returns
returns c = finished_trees_keep_trees
