-- The lemma says it.
use Rattle.bdb_repair.proofs.ApartRoomLemmas.{databases_take_room}
use Rattle.bdb_repair.proofs.laws.databases_take_room.Goals as goal

pub returns : goal.returns
returns c = databases_take_room
