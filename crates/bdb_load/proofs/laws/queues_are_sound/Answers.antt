use Rattle.bdb_onto.proofs.of_mkfile.of_law_join.QueueLemmas.{queues_are_sound}
use Rattle.bdb_load.proofs.laws.queues_are_sound.Goals as goal

pub returns : goal.returns
returns c = queues_are_sound
