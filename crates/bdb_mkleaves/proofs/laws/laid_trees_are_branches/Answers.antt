use Rattle.bdb_mkleaves.proofs.LaidBranchLemmas.{laid_trees_are_branches}
use Rattle.bdb_mkleaves.proofs.laws.laid_trees_are_branches.Goals as goal

pub returns : goal.returns
returns c = laid_trees_are_branches
