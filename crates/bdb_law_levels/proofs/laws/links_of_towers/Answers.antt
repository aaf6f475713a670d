use Rattle.bdb_law_levels.proofs.LinkLemmas.{links_of_towers}
use Rattle.bdb_law_levels.proofs.laws.links_of_towers.Goals as goal

pub returns : goal.returns
returns c = links_of_towers
