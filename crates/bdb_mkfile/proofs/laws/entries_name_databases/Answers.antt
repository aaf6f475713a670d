use Rattle.bdb_mkfile.proofs.NamingLemmas.{entries_name_databases}
use Rattle.bdb_mkfile.proofs.laws.entries_name_databases.Goals as goal

pub returns : goal.returns
returns c = entries_name_databases
