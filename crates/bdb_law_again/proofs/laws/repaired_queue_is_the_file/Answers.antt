use Rattle.bdb_law_again.proofs.QueueAgainLemmas.{repaired_queue_is_the_file}
use Rattle.bdb_law_again.proofs.laws.repaired_queue_is_the_file.Goals as goal

pub returns : goal.returns
returns c = repaired_queue_is_the_file
