use Rattle.bdb_onto.proofs.of_mkfile.of_law_join.NamedLemmas.{joins_all}
use Rattle.bdb_load.proofs.laws.joins_all.Goals as goal

pub returns : goal.returns
returns c = joins_all
