use Rattle.bdb_mkfile.proofs.ListLemmas.{load_into_queues}
use Rattle.bdb_mkfile.proofs.laws.load_into_queues.Goals as goal

pub returns : goal.returns
returns c = load_into_queues
