use Rattle.bdb_format.proofs.GraphLemmas.{roles_exclude_each_other}
use Rattle.bdb_format.proofs.graph_laws.roles_exclude_each_other.Goals as goal

pub returns : goal.returns
returns c = roles_exclude_each_other
