-- The lemma says it.
use Rattle.bdb_repair.proofs.FileRoomLemmas.{many_pairs_are_too_large}
use Rattle.bdb_repair.proofs.laws.many_pairs_are_too_large.Goals as goal

pub returns : goal.returns
returns c = many_pairs_are_too_large
