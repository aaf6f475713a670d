use Rattle.bdb_law_join.proofs.ReadLemmas.{images_are_read}
use Rattle.bdb_law_join.proofs.laws.images_are_read.Goals as goal

pub returns : goal.returns
returns c = images_are_read
