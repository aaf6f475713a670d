use Rattle.bdb_law_apart.proofs.QueueLeftLemmas.{nothing_is_left_of_queues}
use Rattle.bdb_law_apart.proofs.laws.nothing_is_left_of_queues.Goals as goal

pub returns : goal.returns
returns c = nothing_is_left_of_queues
