use Rattle.bdb_mkfile.proofs.ListLemmas.{records_are_few}
use Rattle.bdb_mkfile.proofs.laws.records_are_few.Goals as goal

pub returns : goal.returns
returns c = records_are_few
