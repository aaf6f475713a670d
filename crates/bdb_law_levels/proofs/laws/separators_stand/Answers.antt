use Rattle.bdb_law_levels.proofs.SeparatorLemmas.{separators_stand}
use Rattle.bdb_law_levels.proofs.laws.separators_stand.Goals as goal

pub returns : goal.returns
returns c = separators_stand
