use Rattle.bdb_text.proofs.WrittenLemmas.{written_are_read}
use Rattle.bdb_text.proofs.laws.written_are_read.Goals as goal

pub returns : goal.returns
returns c = written_are_read
