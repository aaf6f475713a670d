use Rattle.bdb_law_join.proofs.QueueLemmas.{queues_are_sound}
use Rattle.bdb_law_join.proofs.laws.queues_are_sound.Goals as goal

pub returns : goal.returns
returns c = queues_are_sound
