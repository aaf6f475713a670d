use Rattle.bdb_law_levels.proofs.NodeLemmas.{towers_have_leaves}
use Rattle.bdb_law_levels.proofs.laws.towers_have_leaves.Goals as goal

pub returns : goal.returns
returns c = towers_have_leaves
