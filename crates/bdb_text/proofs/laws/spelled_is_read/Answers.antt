use Rattle.bdb_text.proofs.LawLemmas.{spelled_read}
use Rattle.bdb_text.proofs.laws.spelled_is_read.Goals as goal

pub returns : goal.returns
returns c = spelled_read
