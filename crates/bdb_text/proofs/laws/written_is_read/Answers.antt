use Rattle.bdb_text.proofs.WrittenLemmas.{written_is_read}
use Rattle.bdb_text.proofs.laws.written_is_read.Goals as goal

pub returns : goal.returns
returns c = written_is_read
