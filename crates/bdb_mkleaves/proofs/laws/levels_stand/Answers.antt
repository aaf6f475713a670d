use Rattle.bdb_mkleaves.proofs.LevelLawLemmas.{levels_stand}
use Rattle.bdb_mkleaves.proofs.laws.levels_stand.Goals as goal

pub returns : goal.returns
returns c = levels_stand
