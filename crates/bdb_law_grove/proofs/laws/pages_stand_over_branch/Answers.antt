use Rattle.bdb_law_grove.proofs.BranchLemmas.{pages_stand_over_branch}
use Rattle.bdb_law_grove.proofs.laws.pages_stand_over_branch.Goals as goal

pub returns : goal.returns
returns c = pages_stand_over_branch
