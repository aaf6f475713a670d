use Rattle.bdb_law_levels.proofs.ContentLemmas.{separators_of_towers}
use Rattle.bdb_law_levels.proofs.laws.separators_of_towers.Goals as goal

pub returns : goal.returns
returns c = separators_of_towers
