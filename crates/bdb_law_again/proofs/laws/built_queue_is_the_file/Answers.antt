use Rattle.bdb_law_again.proofs.QueueAgainLemmas.{built_queue_is_the_file}
use Rattle.bdb_law_again.proofs.laws.built_queue_is_the_file.Goals as goal

pub returns : goal.returns
returns c = built_queue_is_the_file
