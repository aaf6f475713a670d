use Rattle.bdb_mkleaves.proofs.LevelLawLemmas.{levels_go_on}
use Rattle.bdb_mkleaves.proofs.laws.levels_go_on.Goals as goal

pub returns : goal.returns
returns c = levels_go_on
