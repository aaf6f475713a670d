use Rattle.bdb_law_levels.proofs.LinkLemmas.{links_stand}
use Rattle.bdb_law_levels.proofs.laws.links_stand.Goals as goal

pub returns : goal.returns
returns c = links_stand
