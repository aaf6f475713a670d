use Rattle.bdb_law_join.proofs.NamedLemmas.{joins_all}
use Rattle.bdb_law_join.proofs.laws.joins_all.Goals as goal

pub returns : goal.returns
returns c = joins_all
