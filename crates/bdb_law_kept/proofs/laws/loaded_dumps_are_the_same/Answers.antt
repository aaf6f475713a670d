use Rattle.bdb_law_kept.proofs.DumpLemmas.{loaded_dumps_are_the_same}
use Rattle.bdb_law_kept.proofs.laws.loaded_dumps_are_the_same.Goals as goal

pub returns : goal.returns
returns c = loaded_dumps_are_the_same
