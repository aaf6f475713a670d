use Rattle.bdb_mkleaves.proofs.LevelLawLemmas.{levels_shrink}
use Rattle.bdb_mkleaves.proofs.laws.levels_shrink.Goals as goal

pub returns : goal.returns
returns c = levels_shrink
