use Rattle.bdb_mkfile.proofs.ListLemmas.{load_into_tables}
use Rattle.bdb_mkfile.proofs.laws.load_into_tables.Goals as goal

pub returns : goal.returns
returns c = load_into_tables
