use Rattle.bdb_text.proofs.WrittenLemmas.{dump_is_read}
use Rattle.bdb_text.proofs.laws.dump_is_read.Goals as goal

pub returns : goal.returns
returns c = dump_is_read
