use Rattle.bdb_onto.proofs.of_mkfile.of_law_join.AloneLemmas.{joins_alone}
use Rattle.bdb_load.proofs.laws.joins_alone.Goals as goal

pub returns : goal.returns
returns c = joins_alone
