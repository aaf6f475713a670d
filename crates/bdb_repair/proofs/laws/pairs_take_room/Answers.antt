-- The lemma says it.
use Rattle.bdb_repair.proofs.FileRoomLemmas.{pairs_take_room}
use Rattle.bdb_repair.proofs.laws.pairs_take_room.Goals as goal

pub returns : goal.returns
returns c = pairs_take_room
