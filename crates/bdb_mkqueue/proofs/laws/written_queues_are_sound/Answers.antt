use Rattle.bdb_mkqueue.proofs.WrittenLemmas.{written_queues_are_sound}
use Rattle.bdb_mkqueue.proofs.laws.written_queues_are_sound.Goals as goal

pub returns : goal.returns
returns c = written_queues_are_sound
