use Rattle.bdb_law_levels.proofs.BranchLemmas.{towers_are_branches}
use Rattle.bdb_law_levels.proofs.laws.towers_are_branches.Goals as goal

pub returns : goal.returns
returns c = towers_are_branches
