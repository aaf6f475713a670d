use Rattle.bdb_mkleaves.proofs.LevelLawLemmas.{levels_keep_pages}
use Rattle.bdb_mkleaves.proofs.laws.levels_keep_pages.Goals as goal

pub returns : goal.returns
returns c = levels_keep_pages
