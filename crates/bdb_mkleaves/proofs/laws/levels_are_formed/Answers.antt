use Rattle.bdb_mkleaves.proofs.LevelLawLemmas.{levels_are_formed}
use Rattle.bdb_mkleaves.proofs.laws.levels_are_formed.Goals as goal

pub returns : goal.returns
returns c = levels_are_formed
