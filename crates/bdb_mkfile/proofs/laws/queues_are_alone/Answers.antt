use Rattle.bdb_mkfile.proofs.ListLemmas.{queues_are_alone}
use Rattle.bdb_mkfile.proofs.laws.queues_are_alone.Goals as goal

pub returns : goal.returns
returns c = queues_are_alone
