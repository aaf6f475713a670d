use Rattle.bdb_law_grove.proofs.BranchLemmas.{branches_follow}
use Rattle.bdb_law_grove.proofs.laws.branches_follow.Goals as goal

pub returns : goal.returns
returns c = branches_follow
