use Rattle.bdb_mkleaves.proofs.LiveLeafLemmas.{laid_trees_are_live}
use Rattle.bdb_mkleaves.proofs.laws.laid_trees_are_live.Goals as goal

pub returns : goal.returns
returns c = laid_trees_are_live
