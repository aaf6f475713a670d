use Rattle.bdb_apart.proofs.OrderLemmas.{names_ascend}
use Rattle.bdb_apart.proofs.laws.names_ascend.Goals as goal

pub returns : goal.returns
returns c = names_ascend
