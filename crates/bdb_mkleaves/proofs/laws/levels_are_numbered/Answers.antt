use Rattle.bdb_mkleaves.proofs.LevelLawLemmas.{levels_are_numbered}
use Rattle.bdb_mkleaves.proofs.laws.levels_are_numbered.Goals as goal

pub returns : goal.returns
returns c = levels_are_numbered
