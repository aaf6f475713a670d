use Rattle.bdb_law_join.proofs.WrittenLemmas.{written_pages_are_read}
use Rattle.bdb_law_join.proofs.laws.written_pages_are_read.Goals as goal

pub returns : goal.returns
returns c = written_pages_are_read
