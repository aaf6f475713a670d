use Rattle.bdb_law_join.proofs.JoinLemmas.{joins_under_master}
use Rattle.bdb_law_join.proofs.laws.joins_under_master.Goals as goal

pub returns : goal.returns
returns c = joins_under_master
