use Rattle.bdb_mkfile.proofs.EntryLemmas.{entries_are_listed}
use Rattle.bdb_mkfile.proofs.laws.entries_are_listed.Goals as goal

pub returns : goal.returns
returns c = entries_are_listed
