use Rattle.bdb_mkfile.proofs.EntryLemmas.{entries_take_pages}
use Rattle.bdb_mkfile.proofs.laws.entries_take_pages.Goals as goal

pub returns : goal.returns
returns c = entries_take_pages
