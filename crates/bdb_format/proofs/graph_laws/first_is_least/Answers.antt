use Rattle.bdb_format.proofs.VerdictLemmas.{first_is_least}
use Rattle.bdb_format.proofs.graph_laws.first_is_least.Goals as goal

pub returns : goal.returns
returns c = first_is_least
