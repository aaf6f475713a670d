use Rattle.bdb_law_again.proofs.QueueAgainLemmas.{queue_loads_again}
use Rattle.bdb_law_again.proofs.laws.queue_loads_again.Goals as goal

pub returns : goal.returns
returns c = queue_loads_again
